-- What the selector of a record of the view says where a walk stands at it: after the records b, the next record of its run.
--     entry-head                          the record is the next one of its run
--     selector-run, selector-spells       its run; it is no placeholder
--     selector-named, selector-record     it names a record, and that record
--     selector-unmarked                   it has no mark exactly where the record is visible
use Rattle.std.specs.Prelude.{◌≡◌, ℕ, ◌+◌, ◌%◌, ◌<◌, Bool, true, false, cond, not, ◌&&◌, List, ◌∷◌, ◌++◌, get_or, ltb}
use Rattle.std.proofs.Common.{sym, ap, ◌∙◌, arith, lt-ltb, le-ltb}
use mathlib.Core.List.Memᴰ
use Rattle.theory.specs.Records.{live}
use Rattle.theory.specs.Hiding.{same_key}
use Rattle.theory.specs.Lists.{here}
use Rattle.theory.specs.View.{view, old, visible}
use Rattle.theory.proofs.View.Entries.{at_low}
use Rattle.theory.proofs.View.Laws.{view-at}
use Rattle.theory.specs.Places.{Head}
use Rattle.theory.proofs.Places.Laws.{place-count}
use Rattle.tray.specs.Frame.{run_bytes}
use Rattle.tray.specs.Run.{record_at}
use Rattle.tray.specs.Check.{Sound}
use Rattle.tray.specs.Meaning.{runs_of}
use Rattle.index.specs.Rules.{key_of, Item, selector_of}
use Rattle.index.specs.Rules.Laws.{selector_of-run}
use Rattle.index.specs.Scan.{next_in, has_next, names}
use Rattle.index.specs.Scan.Places.{places_of}
use Rattle.index.specs.Scan.Entry.{read, read_count, few, good, head-low, head-is, head-names}
use Rattle.walk.specs.Walk.{named}

-- whatever the run, a selector has no mark exactly where the record is live and not old
no-mark : (r : ℕ) (o l : Bool) → r < 64 → ltb (r + (cond o 128 0 + cond l 0 64)) 64 ≡ (l && not o)
no-mark r true true h = le-ltb (r + (128 + 0)) 64 (omega arith)
no-mark r true false h = le-ltb (r + (128 + 64)) 64 (omega arith)
no-mark r false true h = lt-ltb (r + (0 + 0)) 64 (omega arith)
no-mark r false false h = le-ltb (r + (0 + 64)) 64 (omega arith)

module _ {t : List ℕ} (sound : Sound t) (b : List Item) (e : Item) (w : List Item) (is : view key_of (runs_of t) ≡ b ++ (e ∷ w)) where
  pub entry-head : Head (runs_of t) (read b) e
  entry-head =
      record {
        stands = view-at key_of (runs_of t) e (rw is (Memᴰ.append_right b here));
        next = place-count (good sound) (few sound) b e w is ∙ sym (read_count b e.run);
      }

  low : e.run < 64
  low = at_low (runs_of t) e (few sound) entry-head.stands

  pub selector-run : selector_of (runs_of t) e % 64 ≡ e.run
  selector-run = selector_of-run (runs_of t) e low

  pub selector-spells : selector_of (runs_of t) e ≡ 63 → ⊥
  selector-spells p = omega (arith, selector-run, head-low sound b e entry-head, ap (λ (n : ℕ). n % 64) p)

  pub selector-named : named t (places_of b) (selector_of (runs_of t) e) ≡ true
  unfolding named names has_next
  selector-named = head-names sound b e entry-head (selector_of (runs_of t) e) (sym selector-run)

  pub selector-record : record_at (run_bytes t (selector_of (runs_of t) e % 64)) (get_or (places_of b) (selector_of (runs_of t) e % 64) 0) ≡ e.item
  unfolding next_in
  selector-record = rw selector-run (ap (λ y. y.item) (sym (head-is sound b e entry-head)))

  pub selector-unmarked : ltb (selector_of (runs_of t) e) 64 ≡ visible (same_key key_of) live (runs_of t) e
  unfolding selector_of visible
  selector-unmarked = no-mark e.run (old (same_key key_of) (runs_of t) e) (live e.item) low
