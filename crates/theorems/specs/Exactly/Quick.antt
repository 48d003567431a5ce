-- The same of the quick calls, which ask 1, then 4, and then follow the walk (docs/RULES.md, "Reading through an index"). The walk is the definition's:
-- it stays at a record, comes to the end, or is lost at a selector of a segment. That each table says what its call answers: `proofs/Exactly/Quick.antt`.
--     Fits                  both frames fit
--     GetSays               get: 1, 4, 10
--     SeekSays              seek: 1, 4, 10
--     NextSays              next: 1, 4, 11, 10
--     PageSays              page: 1, 4, 11, 10
--     SheetSays             sheet: 1, 4, 8, 9, 10, 7
use Rattle.std.specs.Prelude.{◌≡◌, ◌⊎◌, true, false, List, get_or}
use Prim.Native.Nat.{ℕ, ◌+◌, ◌-◌, ◌*◌, ◌≤◌, ◌<◌}
use Rattle.std.proofs.Math.ListN.{length}
use Rattle.number.specs.Big.{be}
use Rattle.theory.specs.Records.{Record}
use Rattle.tray.specs.Frame.{run_count, run_bytes, Framed}
use Rattle.tray.specs.Run.{record_at}
use Rattle.index.specs.Layout.{IndexFramed}
use Rattle.walk.specs.declared.cursor.Cursor.{Cursor}
use Rattle.walk.specs.Walk.{Spot, stayed, ended, lost}
use Rattle.walk.specs.Reads.{Found, seek, next, Written, page, sheet, belongs}
use Rattle.walk.specs.Code.{spot_of}

module _ (t x : List ℕ) where
  -- both frames fit
  pub record Fits : Type 0 where
    pub tray : Framed t
    pub index : IndexFramed (run_count t) x

  module _ (key : List ℕ) where
    -- seek
    pub data SeekSays : ℕ → ℕ → Type 0 where
      -- the tray breaks the header, count or length rules
      seek-1 : (Framed t → ⊥) → SeekSays 1 0
      -- the index breaks its frame
      seek-4 : Framed t → (IndexFramed (run_count t) x → ⊥) → SeekSays 4 0
      -- the walk is lost at selector s of segment g
      seek-10 : Fits → (g s k : ℕ) → seek t x (be 8 key 0) ≡ lost g s k → SeekSays 10 (g * 128 + s)
      -- it stays at a record
      seek_found : Fits → (f : Found) → seek t x (be 8 key 0) ≡ stayed f → SeekSays 0 1
      -- it comes to the end
      seek-end : Fits → (k : ℕ) → seek t x (be 8 key 0) ≡ ended k → SeekSays 0 0

    -- get: the record that seek found has the very key
    pub data GetSays : ℕ → ℕ → Type 0 where
      get-1 : (Framed t → ⊥) → GetSays 1 0
      get-4 : Framed t → (IndexFramed (run_count t) x → ⊥) → GetSays 4 0
      get-10 : Fits → (g s k : ℕ) → seek t x (be 8 key 0) ≡ lost g s k → GetSays 10 (g * 128 + s)
      get-found : Fits → (f : Found) → seek t x (be 8 key 0) ≡ stayed f → (record_at (run_bytes t f.run) f.place).key ≡ be 8 key 0 → GetSays 0 1
      -- it has another, or there is none
      get_other : Fits → (f : Found) → seek t x (be 8 key 0) ≡ stayed f → ((record_at (run_bytes t f.run) f.place).key ≡ be 8 key 0 → ⊥) → GetSays 0 0
      get-end : Fits → (k : ℕ) → seek t x (be 8 key 0) ≡ ended k → GetSays 0 0

  module _ (c : Cursor) where
    -- next
    pub data NextSays : ℕ → ℕ → Type 0 where
      next-1 : (Framed t → ⊥) → NextSays 1 0
      next-4 : Framed t → (IndexFramed (run_count t) x → ⊥) → NextSays 4 0
      -- the cursor does not belong
      next-11 : Fits → belongs (run_count t) x (spot_of c) ≡ false → NextSays 11 c.segment.0
      next-10 : Fits → belongs (run_count t) x (spot_of c) ≡ true → (g s k : ℕ) → next t x (spot_of c) ≡ lost g s k → NextSays 10 (g * 128 + s)
      next-found : Fits → belongs (run_count t) x (spot_of c) ≡ true → (f : Found) → next t x (spot_of c) ≡ stayed f → NextSays 0 1
      next-end : Fits → belongs (run_count t) x (spot_of c) ≡ true → (k : ℕ) → next t x (spot_of c) ≡ ended k → NextSays 0 0

    module _ (out : List ℕ) where
      -- page
      pub data PageSays : ℕ → ℕ → Type 0 where
        page-1 : (Framed t → ⊥) → PageSays 1 0
        page-4 : Framed t → (IndexFramed (run_count t) x → ⊥) → PageSays 4 0
        page-11 : Fits → belongs (run_count t) x (spot_of c) ≡ false → PageSays 11 c.segment.0
        page-10 : Fits → belongs (run_count t) x (spot_of c) ≡ true → (g s : ℕ) (w : Written) → page t x (spot_of c) out ≡ lost g s w → PageSays 10 (g * 128 + s)
        -- the walk stays at a record that has no room
        page-more : Fits → belongs (run_count t) x (spot_of c) ≡ true → (w : Written × Spot) → page t x (spot_of c) out ≡ stayed w → PageSays 0 1
        page-end : Fits → belongs (run_count t) x (spot_of c) ≡ true → (w : Written) → page t x (spot_of c) out ≡ ended w → PageSays 0 0

  module _ (prefix : List ℕ) (room : ℕ) where
    -- a prefix of 1 to 8 bytes whose last is below 255
    pub record Prefix : Type 0 where
      pub some : 1 ≤ length prefix
      pub most : length prefix ≤ 8
      pub last : get_or prefix (length prefix - 1) 0 ≡ 255 → ⊥

    -- the walk of a sheet lists these records: it comes to its bound or to the end
    pub data Lists (es : List Record) : Type 0 where
      to-bound : sheet t x prefix ≡ stayed es → Lists es
      to_end : sheet t x prefix ≡ ended es → Lists es

    -- sheet
    pub data SheetSays : ℕ → ℕ → Type 0 where
      sheet-1 : (Framed t → ⊥) → SheetSays 1 0
      sheet-4 : Framed t → (IndexFramed (run_count t) x → ⊥) → SheetSays 4 0
      -- a prefix of 0 or over 8 bytes
      sheet-8 : Fits → (length prefix ≡ 0) ⊎ (8 < length prefix) → SheetSays 8 (length prefix)
      -- its last byte is 255
      sheet-9 : Fits → 1 ≤ length prefix → length prefix ≤ 8 → get_or prefix (length prefix - 1) 0 ≡ 255 → SheetSays 9 (length prefix)
      sheet-10 : Fits → Prefix → (g s : ℕ) (es : List Record) → sheet t x prefix ≡ lost g s es → SheetSays 10 (g * 128 + s)
      -- the listing is longer than the output
      sheet-7 : Fits → Prefix → (es : List Record) → Lists es → room < 24 * length es → SheetSays 7 (24 * length es)
      sheet-0 : Fits → Prefix → (es : List Record) → Lists es → 24 * length es ≤ room → SheetSays 0 (length es)
