-- What the code of a run's check promises, beside the definitions of `Run.antt`. Its laws: `proofs/RunCode.antt`.
use Rattle.std.specs.Prelude.{◌≡◌}
use Rattle.theory.specs.Records.{Record}
use Rattle.tray.specs.declared.Head.{Head}

-- the head of a record
pub record HeadOf (e : Head) (whole : Record) : Type 0 where
  pub key : e.key ≡ whole.key
  pub kind : e.kind ≡ whole.kind

-- a record of which no more is known
abbrev pub headed : Head → Record
headed e = record { key = e.key; kind = e.kind; value = 0 }
