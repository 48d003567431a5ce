-- The run that comes next: the first of those with the least key, found block by block.
pub mod Laws
pub mod Next
use Rattle.std.specs.Prelude.{ℕ, ◌+◌, ◌*◌, ◌≤◌, ◌<◌, ◌≡◌, List, length, get_or, set, Option, MatchOption}
use Rattle.tray.specs.declared.Tray.{Tray}
use Rattle.tray.specs.Frame.{run_count, count_of, run_bytes}
use Rattle.index.specs.Scan.{next_in}
use Rattle.merge_lead.specs.declared.Lead.{Lead}
use Rattle.merge_lead.specs.declared.Heads.{Heads}
use Rattle.merge_lead.specs.Heads.{highest, key_or, next_key, Padded, Caching}

-- among the numbers from a on and below e, k is the least, and the first that is k is number r
pub record First (keys : List ℕ) (a e k r : ℕ) : Type 0 where
  pub from : a ≤ r
  pub below : r < e
  pub here : get_or keys r 0 ≡ k
  pub low : (i : ℕ) → a ≤ i → i < e → k ≤ get_or keys i 0
  pub before : (i : ℕ) → a ≤ i → i < r → k < get_or keys i 0

-- the same of blocks, r being the run that is kept of the first one
pub record Topped (tops firsts : List ℕ) (a e k r : ℕ) : Type 0 where
  pub block : ℕ
  pub first : First tops a e k block
  pub run : get_or firsts block 0 ≡ r

-- where there are up to four runs, block b is the first one, and they are its first half
pub record Half (keys : List ℕ) (h b : ℕ) : Type 0 where
  pub only : h ≤ 4 → b ≡ 0
  pub past : h ≤ 4 → (i : ℕ) → 4 ≤ i → i < 8 → get_or keys i 0 ≡ highest

-- the first of block b has been kept
pub record Kept (keys : List ℕ) (b : ℕ) (tops firsts tops' firsts' : List ℕ) : Type 0 where
  pub key : ℕ
  pub run : ℕ
  pub first : First keys (8 * b) (8 * b + 8) key run
  pub tops_are : tops' ≡ set tops b key
  pub firsts-are : firsts' ≡ set firsts b run

-- the firsts of the first n blocks are kept
pub record Leading (keys tops firsts : List ℕ) (n : ℕ) : Type 0 where
  pub room : length keys ≡ 64
  pub room-tops : length tops ≡ 8
  pub room-firsts : length firsts ≡ 8
  pub are : (b : ℕ) → b < n → First keys (8 * b) (8 * b + 8) (get_or tops b 0) (get_or firsts b 0)

-- the first of enough blocks for h runs
pub data Ahead (tops firsts : List ℕ) (h k r : ℕ) : Type 0 where
  one : h ≤ 8 → Topped tops firsts 0 1 k r → Ahead tops firsts h k r
  all : h ≤ 63 → Topped tops firsts 0 8 k r → Ahead tops firsts h k r

-- the keys after the next ones of the first n runs
pub record Nexts (t places nexts : List ℕ) (n : ℕ) : Type 0 where
  pub room : length nexts ≡ 64
  pub are : (r : ℕ) → r < n → get_or nexts r 0 ≡ key_or (run_bytes t r) (count_of t r) (get_or places r 0 + 1)

-- nothing is kept of the runs yet
pub record Bare (heads : Heads) : Type 0 where
  pub padded : Padded heads.keys 0
  pub nexts : length heads.nexts ≡ 64
  pub tops : length heads.tops ≡ 8
  pub firsts : length heads.firsts ≡ 8

-- the runs, how far they have been read, and all that is kept of them
pub record Heading (tray : Tray) (places : List ℕ) (heads : Heads) : Type 0 where
  pub caching : Caching tray.bytes.now tray.counts tray.starts places heads.keys
  pub nexts-are : Nexts tray.bytes.now places heads.nexts (run_count tray.bytes.now)
  pub leading : Leading heads.keys heads.tops heads.firsts 8

-- all of the first r runs are at their end
abbrev pub EndedTo : List ℕ → List ℕ → ℕ → Type 0
EndedTo counts places r = (i : ℕ) → i < r → get_or counts i 0 ≤ get_or places i 0

-- the first of h runs that is not at its end
pub record LeftAt (counts places : List ℕ) (h r : ℕ) : Type 0 where
  pub run : r < h
  pub left : get_or places r 0 < get_or counts r 0
  pub before : EndedTo counts places r

-- that run, or none
abbrev pub FirstLeft : List ℕ → List ℕ → ℕ → Option ℕ → Type 0
FirstLeft counts places h o = MatchOption o (EndedTo counts places h) (LeftAt counts places h)

module _ (t : List ℕ) (h : ℕ) (places : List ℕ) where
  -- run r comes next, with key k or with the highest number: no run has a lower one, and no lower run has it
  pub record NextRun (r k : ℕ) : Type 0 where
    pub run : r < h
    pub has : get_or places r 0 < count_of t r
    pub is : k < highest → (next_in t places r).key ≡ k
    pub low : (i : ℕ) → i < h → get_or places i 0 < count_of t i → k ≤ (next_in t places i).key
    pub before : (i : ℕ) → i < r → get_or places i 0 < count_of t i → k < (next_in t places i).key

  -- no run comes next
  abbrev pub NoRun : Type 0
  NoRun = (i : ℕ) → i < h → count_of t i ≤ get_or places i 0

  -- m is the least key that is left, or the highest number
  pub record LeastKey (m : ℕ) : Type 0 where
    pub low : (r : ℕ) → r < h → m ≤ next_key t places r
    pub got : m < highest → (r : ℕ) × (r < h) × (next_key t places r ≡ m)

-- the run that comes next, with its key, or none
abbrev pub Comes : Tray → List ℕ → Option Lead → Type 0
Comes tray places o = MatchOption o (NoRun tray.bytes.now tray.runs places) (λ (l : Lead). NextRun tray.bytes.now tray.runs places l.run l.key)
