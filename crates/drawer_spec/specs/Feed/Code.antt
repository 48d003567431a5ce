-- What the code promises of what it carries, and what its ways out need.
--     Keeps, Stands           what is carried is a progress
--     Answers, Ends, Takes, Finishes     what a line, a line feed, a piece and the end of the input do
--     first-begun             before the first byte
--     line-found, line-open   where a line ends, or that it goes on
--     gathered, answered, ends-whole, ends-gathered     each way out of `gather_line`, `answer` and `end_line`
--     Taking, taking-none, taking-more, takes-rest, takes-full     the loop of `take_lines`, and its ways out
use Rattle.std.specs.Prelude.{nat_lt, leb, ◌≡◌, refl, ℕ, zero, suc, ◌+◌, ◌-◌, ◌%◌, ◌^◌, ◌≤◌, ◌<◌, Bool, true, not, eqb, get_or, take, drop, min, Option, Some, None}
use Rattle.std.proofs.Math.Path.{sym, ap, ap₂}
use Rattle.std.proofs.Common.{◌∙◌, subst, take_all, take-take, take-add, add-one, get_or-take, eq-eqb, eqb-true, leb-true, leb-false, ltb-false}
use native.Mathlib.Omega.{arith}
use mathlib.Core.List.{List, [], ◌∷◌, ◌++◌}
use Rattle.std.proofs.Math.ListN.{length, length-drop}
use Rattle.std.proofs.Math.Seq.{length-take-le, take-append-add, take-suc}
use Rattle.std.proofs.lemmas.List.Quantifiers.{position-Some}
use Rattle.std.specs.List.{position, position_or_len, prefix_len}
use Rattle.std.proofs.lemmas.List.{take-append-drop}
use Rattle.std.proofs.lemmas.List.Sums.{prefix_len-le-length, prefix_len_passes}
use Rattle.theory.specs.Tests.{never, clash, cases}
use Rattle.drawer_spec.specs.declared.Drawer.{Drawer}
use Rattle.drawer_spec.specs.declared.Filled.{Filled}
use Rattle.drawer_spec.specs.declared.Carried.{Carried}
use Rattle.drawer_spec.specs.Filled.{filled, length-filled}
use Rattle.drawer_spec.specs.Line.{Turn, turn, answer_line}
use Rattle.drawer_spec.specs.Turns.{Roomy, Turned, turn_in, output_size}
use Rattle.drawer_spec.specs.Theorems.{turn-front}
use Rattle.drawer_spec.specs.Feed.{Progress, begun, ended, more, feed, finished}
use Rattle.drawer_spec.specs.Feed.Laws.{Plain, feed-append, feed-more, feed-line}

-- as many characters as tell an over-long line
abbrev pub gather_size : ℕ
gather_size = 32771

-- a character is a line feed
abbrev pub line_feed : ℕ → Bool
line_feed c = eqb c 10

-- the drawer is this progress, but for the characters of the line
pub record Keeps {n : ℕ} (d : Drawer n) (p : Progress) : Type 0 where
  pub tray : filled d.tray ≡ p.tray
  pub index : filled d.index ≡ p.index
  pub number : d.number ≡ p.number
  pub said : filled d.output ≡ p.said

-- and so are these, as far as they matter
pub record Stands (c : Carried) (p : Progress) : Type 0 where
  pub keeps : Keeps c.drawer p
  pub gathers : filled c.line ≡ take gather_size p.line

-- a line has taken its turn
abbrev pub Answers : {n : ℕ} → List ℕ → Drawer n → Drawer n → Type 0
Answers line before after = (p : Progress) → Keeps before p → take gather_size p.line ≡ take gather_size line → Keeps after (ended p)

-- a line feed after some characters
abbrev pub Ends : List ℕ → Carried → Carried → Type 0
Ends part before after = (p : Progress) → Stands before p → Stands after (ended (more p part))

-- so many bytes of a piece are taken
pub record Takes (piece : List ℕ) (before : Carried) (taken : ℕ) (after : Carried) : Type 0 where
  pub high : taken ≤ length piece
  pub goes_on : 0 < length piece → 0 < taken
  pub fed : (p : Progress) → Stands before p → Stands after (feed p (take taken piece))

-- the end of the input
abbrev pub Finishes : Carried → Drawer output_size → Type 0
Finishes before after = (p : Progress) → Stands before p → Keeps after (finished p)

-- before the first byte it is where all begins
pub first-begun : {c : Carried} → filled c.drawer.tray ≡ [] → filled c.drawer.index ≡ [] → c.drawer.number ≡ 1 → filled c.drawer.output ≡ []
    → filled c.line ≡ [] → Stands c begun
unfolding begun
first-begun t x n o l = record { keeps = record { tray = t; index = x; number = n; said = o }; gathers = l }

-- laws of lists
-- a list cut, and put before another that is cut
cut-append : (n : ℕ) (xs ys : List ℕ) → take n (take n xs ++ ys) ≡ take n (xs ++ ys)
cut-append zero xs ys = refl
cut-append (suc n) [] ys = refl
cut-append (suc n) (x ∷ xs) ys = ap (λ (l : List ℕ). x ∷ l) (cut-append n xs ys)

-- where nothing is left of a front, there was nothing
cut-none : (n : ℕ) (xs : List ℕ) → take (suc n) xs ≡ [] → xs ≡ []
cut-none n [] e = refl
cut-none n (x ∷ xs) e = never (cc)

-- where a line ends
pub record LineFound (cs : List ℕ) (e : ℕ) : Type 0 where
  pub inside : e < length cs
  pub plain : Plain (take e cs)
  pub there : take (e + 1) cs ≡ take e cs ++ (10 ∷ [])

pub line-found : (cs : List ℕ) (e : ℕ) → position line_feed cs ≡ Some e → LineFound cs e
unfolding Plain
line-found cs e is =
    let found = position-Some line_feed cs e 0 is in
    record {
      inside = found.0;
      plain = λ i l. let short : i < e = omega (arith, length-take-le e cs (omega (arith, found.0))) in
          λ same. clash (eq-eqb (get_or cs i 0) 10 (sym (get_or-take e cs i 0 short) ∙ same)) (found.2 i short);
      there = rw add-one (take-suc cs e 0 found.0 ∙ ap (λ (c : ℕ). take e cs ++ (c ∷ [])) (eqb-true (get_or cs e 0) 10 found.1));
    }

pub line-open : (cs : List ℕ) → position line_feed cs ≡ None → Plain cs
unfolding Plain
line-open cs is =
    cases (nat_lt (position_or_len line_feed cs) (length cs)) (λ y. never (some (rw y at is)))
    (λ n i l same. clash (all i (omega (arith, prefix_len-le-length (λ c. not (line_feed c)) cs, ltb-false _ _ n))) (rw (eq-eqb (get_or cs i 0) 10 same)))
  where
    some : {k : ℕ} → ◌≡◌ {A = Option ℕ} (Some k) None → ◌≡◌ {A = ℕ} 0 1
    some z = cc

    all : (i : ℕ) → i < prefix_len (λ c. not (line_feed c)) cs → not (line_feed (get_or cs i 0)) ≡ true
    all i l = prefix_len_passes (λ c. not (line_feed c)) cs i 0 l

-- gather_line
-- characters after those that are gathered, as far as there is room
pub gathered : (line : Filled 32771) (part : List ℕ) {left : ℕ} → left ≡ min (length part) (gather_size - line.used)
    → filled line ++ take left part ≡ take gather_size (filled line ++ part)
gathered line part is =
    let left = gather_size - line.used in
    let used : length (filled line) ≡ line.used = length-filled line in
    let fits : line.used ≤ gather_size = line.fits in
    let sum : length (filled line) + left ≡ gather_size = omega arith in
    ap (λ (n : ℕ). filled line ++ take n part) is ∙ ap (λ (l : List ℕ). filled line ++ l) (cut left)
    ∙ sym (ap (λ (n : ℕ). take n (filled line ++ part)) (sym sum) ∙ take-append-add (filled line) part left)
  where
    cut : (left : ℕ) → take (min (length part) left) part ≡ take left part
    cut left =
        cases (leb (length part) left)
        (λ y. let l : length part ≤ left = leb-true _ _ y in
        let m : min (length part) left ≡ length part = omega arith in
        rw m (take_all (length part) part (omega arith) ∙ sym (take_all left part l)))
        (λ n. let l : left < length part = leb-false _ _ n in
        let m : min (length part) left ≡ left = omega arith in
        rw m)

-- answer
pub answered : {m : ℕ} (line : List ℕ) {before mid after : Drawer m} → Turned (turn_in before line) before mid → filled after.tray ≡ filled mid.tray
    → filled after.index ≡ filled mid.index → filled after.output ≡ filled mid.output → after.number ≡ (mid.number + 1) % 2 ^ 32
    → Answers line before after
unfolding ended
answered line {before} u t x o n p k cut =
    let same : turn_in before line ≡ turn p.tray p.index p.number p.line =
    turn-front (filled before.tray) (filled before.index) before.number line
    ∙ ap (turn (filled before.tray) (filled before.index) before.number) (sym cut)
    ∙ sym (turn-front (filled before.tray) (filled before.index) before.number p.line)
    ∙ rw (k.tray, k.index, k.number) in
    record {
      tray = t ∙ u.tray ∙ ap (λ (u : Turn). u.tray) same;
      index = x ∙ u.index ∙ ap (λ (u : Turn). u.index) same;
      number = n ∙ ap (λ (n : ℕ). (n + 1) % 2 ^ 32) (u.number ∙ k.number);
      said = o ∙ u.said ∙ ap₂ (λ (x y : List ℕ). x ++ y) k.said (ap (λ (u : Turn). answer_line u.says) same);
    }

-- end_line
-- the line of some progress is what was gathered, and a part more
more-keeps : {n : ℕ} {d : Drawer n} {p : Progress} (part : List ℕ) → Keeps d p → Keeps d (more p part)
unfolding more
more-keeps part k = record { tray = k.tray; index = k.index; number = k.number; said = k.said }

more-line : (p : Progress) (part : List ℕ) → (more p part).line ≡ p.line ++ part
unfolding more
more-line p part = refl

ended-line : (p : Progress) → (ended p).line ≡ []
unfolding ended
ended-line p = refl

-- where nothing is gathered, the line is empty
pub none-gathered : (c : Carried) (p : Progress) → c.line.used ≡ 0 → filled c.line ≡ take gather_size p.line → p.line ≡ []
none-gathered c p none g = cut-none 32770 p.line (sym g ∙ ap (λ (n : ℕ). take n c.line.bytes) none)

-- after its turn the line is empty
emptied-line : {c : Carried} (p : Progress) → filled c.line ≡ [] → Keeps c.drawer (ended p) → Stands c (ended p)
emptied-line p e k = record { keeps = k; gathers = e ∙ ap (take gather_size) (sym (ended-line p)) }

pub ends-whole : (part : List ℕ) {c c₁ : Carried} → c.line.used ≡ 0 → Answers part c.drawer c₁.drawer → filled c₁.line ≡ filled c.line → Ends part c c₁
ends-whole part {c} {c₁} none a same p s =
    let alone : (more p part).line ≡ part = more-line p part ∙ ap (λ (l : List ℕ). l ++ part) (none-gathered c p none s.gathers) in
    emptied-line {c = c₁} (more p part) (same ∙ ap (λ (n : ℕ). take n c.line.bytes) none) (a (more p part) (more-keeps part s.keeps) (ap (take gather_size) alone))

-- what is gathered then is the front of the line
more-front : (c : Carried) (p : Progress) (part : List ℕ) {l : List ℕ} → filled c.line ≡ take gather_size p.line
    → l ≡ take gather_size (filled c.line ++ part) → l ≡ take gather_size (more p part).line
more-front c p part g e =
    e ∙ ap (λ (l : List ℕ). take gather_size (l ++ part)) g ∙ cut-append gather_size p.line part ∙ ap (take gather_size) (sym (more-line p part))

pub ends-gathered : (part : List ℕ) {c c₁ : Carried} {l : List ℕ} → l ≡ take gather_size (filled c.line ++ part) → Answers l c.drawer c₁.drawer
    → filled c₁.line ≡ [] → Ends part c c₁
ends-gathered part {c} {c₁} {l} e a none p s =
    let all : l ≡ take gather_size (more p part).line = more-front c p part s.gathers e in
    let cut : take gather_size (more p part).line ≡ take gather_size l =
    sym (ap (take gather_size) all ∙ take-take gather_size gather_size (more p part).line (omega arith)) in
    emptied-line {c = c₁} (more p part) none (a (more p part) (more-keeps part s.keeps) cut)

-- take_lines
-- the piece has been taken up to a place
pub record Taking (piece : List ℕ) (before now : Carried) (at : ℕ) : Type 0 where
  pub high : at ≤ length piece
  pub moved : (Roomy now.drawer → ⊥) → 0 < at
  pub fed : (p : Progress) → Stands before p → Stands now (feed p (take at piece))

pub taking-none : (piece : List ℕ) {c : Carried} → Roomy c.drawer → Taking piece c c 0
unfolding feed
taking-none piece l = record { high = omega arith; moved = λ full. absurd (full l); fed = λ p s. s }

-- the rest of the piece, as the code lends it
abbrev rest_of : List ℕ → ℕ → List ℕ
rest_of piece at = take (length piece - at) (drop at piece)

rest-is : (piece : List ℕ) (at : ℕ) → rest_of piece at ≡ drop at piece
rest-is piece at = take_all (length piece - at) (drop at piece) (simp length-drop (omega arith))

module _ {piece : List ℕ} {before now : Carried} {at : ℕ} (w : Taking piece before now at) where
  -- a line feed is fed, and the line before it
  pub taking-more : {e : ℕ} {o : Option ℕ} {after : Carried} → o ≡ position line_feed (rest_of piece at) → o ≡ Some e
      → Ends (take e (rest_of piece at)) now after → Taking piece before after (at + (e + 1))
  unfolding feed
  taking-more {e} {after = after} is some ends =
      let cs = rest_of piece at in
      let part = take e cs in
      let f = line-found cs e (sym is ∙ some) in
      record {
        high = omega (arith, f.inside, length-drop at piece, ap length (rest-is piece at));
        moved = λ full. omega arith;
        fed = λ p s.
            let q = feed p (take at piece) in
            let same : feed p (take (at + (e + 1)) piece) ≡ ended (more q part) =
            ap (feed p) (take-add at (e + 1) piece ∙ ap (λ (l : List ℕ). take at piece ++ take (e + 1) l) (sym (rest-is piece at)))
            ∙ feed-append p (take at piece) (take (e + 1) cs) ∙ ap (feed q) f.there ∙ feed-line q part [] f.plain in
            subst (Stands after) (sym same) (ends q (w.fed p s));
      }

  -- the rest is characters of the line
  pub takes-rest : {o : Option ℕ} {after : Carried} → o ≡ position line_feed (rest_of piece at) → o ≡ None
      → filled after.line ≡ take gather_size (filled now.line ++ rest_of piece at) → after.drawer ≡ now.drawer → Takes piece before (length piece) after
  takes-rest {after = after} is none e same =
      let cs = rest_of piece at in
      record {
        high = omega arith;
        goes_on = λ l. l;
        fed = λ p s.
            let q = feed p (take at piece) in
            let fed : feed p (take (length piece) piece) ≡ more q cs =
            ap (feed p)
            (take_all (length piece) piece (omega arith) ∙ sym (take-append-drop at piece)
            ∙ ap (λ (l : List ℕ). take at piece ++ l) (sym (rest-is piece at)))
            ∙ feed-append p (take at piece) cs ∙ feed-more q cs (line-open cs (sym is ∙ none)) in
            let stands = w.fed p s in
            subst (Stands after) (sym fed)
            (record {
              keeps = subst (λ (d : Drawer output_size). Keeps d (more q cs)) (sym same) (more-keeps cs stands.keeps);
              gathers = more-front now q cs stands.gathers e;
            });
      }

  pub takes-full : (Roomy now.drawer → ⊥) → Takes piece before at now
  takes-full full = record { high = w.high; goes_on = λ h. w.moved full; fed = w.fed }
