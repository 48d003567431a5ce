-- The frame of a tray (docs/FORMAT.md, "The tray"): byte 0 is the run count H, 1 to 63; bytes 1 to 3 are zero; then H counts of 2 bytes,
-- each 0 to 4,096; then the records of 25 bytes, run 0 first, back to back, and nothing after.
pub mod Code
pub mod Laws
use Rattle.std.specs.Prelude.{ℕ, zero, suc, ◌+◌, ◌-◌, ◌*◌, ◌≤◌, ◌<◌, ◌≡◌, Bool, true, ◌&&◌, List, length, get_or, take, drop, leb, eqb}
use Rattle.number.specs.Big.{be}

-- H
unfoldable pub run_count : List ℕ → ℕ
run_count t = get_or t 0 0

-- how many records run r has
unfoldable pub count_of : List ℕ → ℕ → ℕ
count_of t r = be 2 t (4 + 2 * r)

-- how many records stand before run r
unfoldable pub records_before : List ℕ → ℕ → ℕ
records_before t zero = 0
records_before t (suc r) = records_before t r + count_of t r

-- where run r starts; for r = H where the last run ends
unfoldable pub start_of : List ℕ → ℕ → ℕ
start_of t r = 4 + 2 * run_count t + 25 * records_before t r

-- run r as its own stretch from the middle of the tray
unfoldable pub run_bytes : List ℕ → ℕ → List ℕ
run_bytes t r = take (start_of t (suc r) - start_of t r) (drop (start_of t r) t)

-- the header, count and length rules
pub record Framed (t : List ℕ) : Type 0 where
  pub some-run : 1 ≤ run_count t
  pub most-runs : run_count t ≤ 63
  pub zero-1 : get_or t 1 0 ≡ 0
  pub zero-2 : get_or t 2 0 ≡ 0
  pub zero-3 : get_or t 3 0 ≡ 0
  pub counts : (r : ℕ) → r < run_count t → count_of t r ≤ 4096
  pub whole : length t ≡ start_of t (run_count t)

-- the same as a test: room for the counts, and the header,
unfoldable pub header_fits : List ℕ → Bool
header_fits t =
    leb (4 + 2 * run_count t) (length t)
    && (leb 1 (run_count t) && (leb (run_count t) 63 && (eqb (get_or t 1 0) 0 && (eqb (get_or t 2 0) 0 && eqb (get_or t 3 0) 0))))

-- the first n counts,
unfoldable pub counts_fit : List ℕ → ℕ → Bool
counts_fit t zero = true
counts_fit t (suc r) = counts_fit t r && leb (count_of t r) 4096

-- and the length
unfoldable pub framed : List ℕ → Bool
framed t = header_fits t && (counts_fit t (run_count t) && eqb (length t) (start_of t (run_count t)))

-- where the runs start, as the functions below a call ask for it
pub record Starts (t starts : List ℕ) : Type 0 where
  pub frame : Framed t
  pub few : run_count t ≤ 63
  pub room : length starts ≡ 64
  pub starts-are : (r : ℕ) → r ≤ run_count t → get_or starts r 0 ≡ start_of t r

-- what a frame that fits says: how many runs there are, how many records each has and where it starts
pub record FrameOf (t : List ℕ) (n : ℕ) (counts-of starts-of : List ℕ) : Type 0 where
  pub runs : n ≡ run_count t
  pub few : n ≤ 63
  pub room : length counts-of ≡ 63
  pub counts : (r : ℕ) → r < run_count t → get_or counts-of r 0 ≡ count_of t r
  pub at : Starts t starts-of
