-- Check index in the table's words (docs/RULES.md, "The index" and "Refusals by number"): each answer exactly when.
--     answers-segments     an index is accepted exactly when it follows the rules, and its segments are then counted
--     refuses-tray         1 to 3 are given exactly where check tray gives them
--     refuses-4            4: the frame
--     refuses-5            5: the first wrong segment, or S for left-over records
--     never-right          no right segment has a selector 0x7f, 0xbf or 0xff
--     never-accepted       and no accepted index
use Rattle.std.specs.Prelude.{◌≡◌, refl, ◌↔◌, ℕ, ◌%◌, ◌≤◌, List, ◌++◌, length, Ok, Err, Result}
use Rattle.std.proofs.Common.{sym, ap, ◌∙◌, subst, ⊎_elim, arith, append_assoc}
use mathlib.Core.List.Memᴰ
use Rattle.refusal.specs.declared.Refusal.{Refusal}
use Rattle.refusal.specs.declared.Refusal.TheVariants.{TrayFrame, KeyOrder, RecordKind, IndexFrame, Segment}
use Rattle.refusal.specs.Table.{verdict_of}
use Rattle.theory.specs.Records.{Record}
use Rattle.theory.specs.Rising.{Mem}
use Rattle.theory.specs.Tests.{never}
use Rattle.theory.specs.View.{view}
use Rattle.theory.proofs.View.Entries.{at-run}
use Rattle.theory.proofs.View.Laws.{view-at}
use Rattle.tray.specs.Frame.{run_count}
use Rattle.tray.specs.Check.{check_tray_answer, Sound, Says as TraySays, refused-1, refused-2, refused-3, records}
use Rattle.tray.proofs.Check.Laws.{check-says as tray-says}
use Rattle.tray.specs.Meaning.{runs_of}
use Rattle.index.specs.Layout.{segment_count, segments_of, IndexFramed}
use Rattle.index.specs.Layout
use Rattle.index.specs.Rules.{placeholder, key_of, Item, selector_of, Right, Follows, here, next, Accepted, FirstWrong, LeftOver}
use Rattle.index.specs.Rules.Laws.{spelled-mem, selector_of-run}
use Rattle.index.specs.Scan.Entry.{few-runs}
use Rattle.index.specs.Check.{check_index_answer, Says, refused-tray, refused-4, refused-5, left_over, accepted}
use Rattle.index.specs.Check.Laws.{check-says}

-- a refusal's number in the table
abbrev pub number_of : Refusal → ℕ
number_of r = (verdict_of r).number

module _ (t : List ℕ) where
  -- check tray gives 1, 2 and 3 alone
  tray-number : (r : Refusal) → check_tray_answer t ≡ Err r → number_of r ≤ 3
  tray-number r e = from ((tray-says t (Err r)).0 e) refl
    where
      from : {a : Result ℕ Refusal} → TraySays t a → a ≡ Err r → number_of r ≤ 3
      from (refused-1 f) q = let p : TrayFrame ≡ r = cc in omega (arith, ap number_of p)
      from (refused-2 n i j f a b u k) q = let p : KeyOrder n ≡ r = cc in omega (arith, ap number_of p)
      from (refused-3 n i j f a b u) q = let p : RecordKind n ≡ r = cc in omega (arith, ap number_of p)
      from (records s) q = never (cc)

  module _ (x : List ℕ) where
    -- without a refusal check index answers S, and that exactly when the index follows the rules
    pub answers-segments : (n : ℕ) → (check_index_answer t x ≡ Ok n)
        ↔ (Sound t × IndexFramed (run_count t) x × Accepted (runs_of t) (segments_of (run_count t) x) × (n ≡ segment_count x))
    answers-segments n = (
      λ e. from ((check-says t x (Ok n)).0 e) refl,
      λ w. (check-says t x (Ok n)).1 (subst (λ m. Says t x (Ok m)) (sym w.3) (accepted w.0 w.1 w.2)),
    )
      where
        from : {a : Result ℕ Refusal} → Says t x a → a ≡ Ok n
            → Sound t × IndexFramed (run_count t) x × Accepted (runs_of t) (segments_of (run_count t) x) × (n ≡ segment_count x)
        from (refused-tray r e) q = never (cc)
        from (refused-4 s f) q = never (cc)
        from (refused-5 m s f w) q = never (cc)
        from (left_over s f w) q = never (cc)
        from (accepted s f w) q = (s, f, w, cc)

    -- 1 to 3: check tray refuses so
    pub refuses-tray : (r : Refusal) → number_of r ≤ 3 → (check_index_answer t x ≡ Err r) ↔ (check_tray_answer t ≡ Err r)
    refuses-tray r l = (λ e. from ((check-says t x (Err r)).0 e) refl, λ e. (check-says t x (Err r)).1 (refused-tray r e))
      where
        from : {a : Result ℕ Refusal} → Says t x a → a ≡ Err r → check_tray_answer t ≡ Err r
        from (refused-tray m e) q = let p : m ≡ r = cc in e ∙ ap Err p
        from (refused-4 s f) q = let p : IndexFrame ≡ r = cc in absurd (omega (arith, ap number_of p))
        from (refused-5 m s f w) q = let p : Segment m ≡ r = cc in absurd (omega (arith, ap number_of p))
        from (left_over s f w) q = let p : Segment (segment_count x) ≡ r = cc in absurd (omega (arith, ap number_of p))
        from (accepted s f w) q = never (cc)

    -- 4: the tray is sound, and the index breaks the frame
    pub refuses-4 : (check_index_answer t x ≡ Err IndexFrame) ↔ (Sound t × (IndexFramed (run_count t) x → ⊥))
    refuses-4 = (
      λ e. from ((check-says t x (Err IndexFrame)).0 e) refl,
      λ w. (check-says t x (Err IndexFrame)).1 (refused-4 w.0 w.1),
    )
      where
        from : {a : Result ℕ Refusal} → Says t x a → a ≡ Err IndexFrame → Sound t × (IndexFramed (run_count t) x → ⊥)
        from (refused-tray r e) q = let p : r ≡ IndexFrame = cc in absurd (omega (arith, tray-number r e, ap number_of p))
        from (refused-4 s f) q = (s, f)
        from (refused-5 m s f w) q = never (cc)
        from (left_over s f w) q = never (cc)
        from (accepted s f w) q = never (cc)

    -- the figure of 5: the first segment that is not right, or S where all are right and records are left over
    pub data Figure : ℕ → Type 0 where
      first-wrong : {n : ℕ} → FirstWrong (runs_of t) (segments_of (run_count t) x) n → Figure n
      all_right : LeftOver (runs_of t) (segments_of (run_count t) x) → Figure (segment_count x)

    -- 5: the tray is sound, the index has the frame, and n is this figure
    pub refuses-5 : (n : ℕ) → (check_index_answer t x ≡ Err (Segment n)) ↔ (Sound t × IndexFramed (run_count t) x × Figure n)
    refuses-5 n = (
      λ e. from ((check-says t x (Err (Segment n))).0 e) refl,
      λ w. (check-says t x (Err (Segment n))).1 (to w.0 w.1 w.2),
    )
      where
        from : {a : Result ℕ Refusal} → Says t x a → a ≡ Err (Segment n) → Sound t × IndexFramed (run_count t) x × Figure n
        from (refused-tray r e) q = let p : r ≡ Segment n = cc in absurd (omega (arith, tray-number r e, ap number_of p))
        from (refused-4 s f) q = never (cc)
        from (refused-5 m s f w) q = let p : m ≡ n = cc in (s, f, subst Figure p (first-wrong w))
        from (left_over s f w) q = let p : segment_count x ≡ n = cc in (s, f, subst Figure p (all_right w))
        from (accepted s f w) q = never (cc)

        to : {m : ℕ} → Sound t → IndexFramed (run_count t) x → Figure m → Says t x (Err (Segment m))
        to s f (first-wrong w) = refused-5 _ s f w
        to s f (all_right w) = left_over s f w

-- only the byte 0x3f has the low six bits of a placeholder: none of the segment's selectors is 0x7f, 0xbf or 0xff
abbrev pub PlaceholderAlone : Layout.Segment → Type 0
PlaceholderAlone s = (v : ℕ) → Mem v s.selectors → v % 64 ≡ 63 → v ≡ placeholder

-- where the segment's own records stand in the view of at most 63 runs
pub never-right : {t : List (List Record)} {s : Layout.Segment} {before own after : List Item} → length t ≤ 63
    → view key_of t ≡ before ++ (own ++ after) → Right t s before own after → PlaceholderAlone s
never-right {t} {s} {before} {own} {after} few whole right v m low =
    ⊎_elim (λ e. e) (λ k. named (Memᴰ.of_map (selector_of t) own (subst (Mem v) right.spells k)))
    (spelled-mem v s.selectors right.placeholders.after m)
  where
    named : (e : Item) × Mem e own × (selector_of t e ≡ v) → v ≡ placeholder
    named w =
        let e = w.0 in
        let run = at-run t e (view-at key_of t e (rw whole (Memᴰ.append_right before (Memᴰ.append_left after w.1)))) in
        let bits = selector_of-run t e (omega arith) in let same = ap (λ n. n % 64) w.2 in absurd (omega arith)

-- the same for segments that are right one after the other
follows-alone : {t : List (List Record)} {ss : List Layout.Segment} {b w b' w' : List Item} → length t ≤ 63
    → view key_of t ≡ b ++ w → Follows t ss b w b' w' → (s : Layout.Segment) → Mem s ss → PlaceholderAlone s
follows-alone few whole here s m = absurd (Memᴰ.not-nil m)
follows-alone {t} {b = b} few whole (next {own = own} {v = v} p r f) s m =
    let apart : view key_of t ≡ b ++ (own ++ v) = whole ∙ ap (λ l. b ++ l) p in
    ⊎_elim (λ e. subst PlaceholderAlone (sym e) (never-right few apart r))
    (λ k. follows-alone few (apart ∙ sym (append_assoc b own v)) f s k) (Memᴰ.cases_cons m)

pub never-accepted : (t x : List ℕ) (n : ℕ) → check_index_answer t x ≡ Ok n
    → (s : Layout.Segment) → Mem s (segments_of (run_count t) x) → PlaceholderAlone s
never-accepted t x n e = let w = (answers-segments t x n).0 e in follows-alone (few-runs w.0) refl w.2
