-- What is written may be left out of what is fed after it; how a piece is begun, goes on and is whole.
--     preceded-none, preceded-append     nothing before, and bytes before others
--     feed-preceded                      what was said before changes nothing of what is fed
--     leaves-room                        room made: what stood in the output stands there still, or is written
--     serving-none, serving-more, serving-all     the loop of `serve`: its start, a turn, its end
use Rattle.std.specs.Prelude.{◌≡◌, refl, Bool, true, false, cond, ℕ, ◌+◌, ◌-◌, ◌≤◌, List, [], ◌∷◌, ◌++◌, length, take, drop, eqb}
use Rattle.std.proofs.Common.{sym, ap, ◌∙◌, ⊎_elim, arith, append-nil, append_assoc, length-drop, take-add, take_all}
use Rattle.drawer_spec.specs.Line.{turn, answer_line}
use Rattle.drawer_spec.specs.declared.Carried.{Carried}
use Rattle.drawer_spec.specs.Feed.{Progress, ended, more, fed, feed}
use Rattle.drawer_spec.specs.Feed.Laws.{feed-append}
use Rattle.drawer_spec.specs.Filled.{filled}
use Rattle.drawer_spec.specs.Turns.{Roomy}
use Rattle.drawer_spec.specs.Feed.Code.{Stands, Takes}
use Rattle.drawer_serve.specs.Serves.{Room, preceded, Leaves, Serves, Serving}

-- this progress, having said something else
abbrev saying : Progress → List ℕ → Progress
saying p said = record { tray = p.tray; index = p.index; number = p.number; line = p.line; said = said }

pub preceded-none : (p : Progress) → preceded [] p ≡ p
unfolding preceded
preceded-none p = refl

pub preceded-append : (v w : List ℕ) (p : Progress) → preceded v (preceded w p) ≡ preceded (v ++ w) p
unfolding preceded
preceded-append v w p = ap (saying p) (sym (append_assoc v w p.said))

-- a byte, and bytes
ended-preceded : (w : List ℕ) (p : Progress) → ended (preceded w p) ≡ preceded w (ended p)
unfolding preceded ended
ended-preceded w p =
    ap (saying (ended p)) (append_assoc w p.said (answer_line (turn p.tray p.index p.number p.line).says))

more-preceded : (w : List ℕ) (p : Progress) (cs : List ℕ) → more (preceded w p) cs ≡ preceded w (more p cs)
unfolding preceded more
more-preceded w p cs = refl

fed-preceded : (w : List ℕ) (p : Progress) (c : ℕ) → fed (preceded w p) c ≡ preceded w (fed p c)
unfolding fed
fed-preceded w p c = go (eqb c 10)
  where
    go : (b : Bool) → cond b (ended (preceded w p)) (more (preceded w p) (c ∷ [])) ≡ preceded w (cond b (ended p) (more p (c ∷ [])))
    go true = ended-preceded w p
    go false = more-preceded w p (c ∷ [])

pub feed-preceded : (w : List ℕ) (p : Progress) (cs : List ℕ) → feed (preceded w p) cs ≡ preceded w (feed p cs)
unfolding feed
feed-preceded w p [] = refl
feed-preceded w p (c ∷ cs) = ap (λ (q : Progress). feed q cs) (fed-preceded w p c) ∙ feed-preceded w (fed p c) cs

-- all that was said is written, and none is left
preceded-said : (p : Progress) → p ≡ preceded p.said (saying p [])
unfolding preceded
preceded-said p = ap (saying p) (sym (append-nil p.said))

-- room made
module _ {c c₁ : Carried} (m : Room c.drawer c₁.drawer) (line : filled c₁.line ≡ filled c.line) (p : Progress) (s : Stands c p) where
  -- the rest of what is carried is as it was
  stands-saying : (said : List ℕ) → filled c₁.drawer.output ≡ said → Stands c₁ (saying p said)
  stands-saying said e =
      record {
        keeps = record { tray = m.tray ∙ s.keeps.tray; index = m.index ∙ s.keeps.index; number = m.number ∙ s.keeps.number; said = e };
        gathers = line ∙ s.gathers;
      }

  pub leaves-room : Leaves p c₁
  leaves-room = ⊎_elim held gone m.held-or-written
    where
      held : filled c₁.drawer.output ≡ filled c.drawer.output → Leaves p c₁
      held e = record { written = []; left = p; is = sym (preceded-none p); stands = stands-saying p.said (e ∙ s.keeps.said) }

      gone : filled c₁.drawer.output ≡ [] → Leaves p c₁
      gone e = record { written = p.said; left = saying p []; is = preceded-said p; stands = stands-saying [] e }

-- the loop
pub serving-none : (piece : List ℕ) {c : Carried} → Roomy c.drawer → Serving piece c c 0
unfolding feed
serving-none piece l =
    record { low = l; high = omega arith; serves = λ p s. record { written = []; left = p; is = sym (preceded-none p); stands = s } }

module _ {piece : List ℕ} {before now : Carried} {at : ℕ} (w : Serving piece before now at) where
  -- the rest of the piece, as the code lends it
  rest-is : take (length piece - at) (drop at piece) ≡ drop at piece
  rest-is = take_all (length piece - at) (drop at piece) (simp length-drop (omega arith))

  pub serving-more : {taken : ℕ} {mid after : Carried} → Takes (take (length piece - at) (drop at piece)) now taken mid
      → Room mid.drawer after.drawer → filled after.line ≡ filled mid.line → Serving piece before after (at + taken)
  serving-more {taken} t m line =
      record {
        low = m.low;
        high = omega (arith, t.high, ap length rest-is, length-drop at piece, w.high);
        serves = λ p s.
            let first = w.serves p s in
            let part = take taken (take (length piece - at) (drop at piece)) in
            let now = leaves-room m line (feed first.left part) (t.fed first.left first.stands) in
            record {
              written = first.written ++ now.written;
              left = now.left;
              is = ap (feed p) (take-add at taken piece ∙ ap (λ (l : List ℕ). take at piece ++ take taken l) (sym rest-is))
                  ∙ feed-append p (take at piece) part ∙ ap (λ (q : Progress). feed q part) first.is
                  ∙ feed-preceded first.written first.left part
                  ∙ ap (preceded first.written) now.is ∙ preceded-append first.written now.written now.left;
              stands = now.stands;
            };
      }

  pub serving-all : length piece ≤ at → Serves piece before now
  serving-all l p s =
      let first = w.serves p s in
      record { written = first.written; left = first.left; is = ap (feed p) (sym (take_all at piece l)) ∙ first.is; stands = first.stands }
