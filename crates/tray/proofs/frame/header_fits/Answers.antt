-- `tray::frame::header_fits` meets its contract: each way out is a test of the header, in its order.
use Rattle.tray.proofs.FrameCode.{header-short, header-none, header-many, header-1, header-2, header-3}
use native.Mathlib.Omega.{arith}
use Rattle.tray.proofs.frame.header_fits.Goals as goal

pub returns-then-t-lt4 : goal.returns-then-t-lt4
returns-then-t-lt4 c = header-short _ (omega arith)

pub overflow_mul-from : goal.overflow_mul-from
overflow_mul-from c =
    let shared-slice-known2 = c.shared_slice_known-2-1 in
    omega (arith, shared-slice-known2.given 0)

pub overflow_add-from : goal.overflow_add-from
overflow_add-from c =
    let shared-slice-known2 = c.shared_slice_known-2-1 in
    omega (arith, shared-slice-known2.given 0)

pub returns-then-t-from : goal.returns-then-t-from
returns-then-t-from c = header-short _ (omega arith)

pub returns-then-h-lt1 : goal.returns-then-h-lt1
returns-then-h-lt1 c = header-none _ (omega arith) c.if-h-lt1.true

pub returns-then-h-gt63 : goal.returns-then-h-gt63
returns-then-h-gt63 c =
    let if3 = c.if-h-lt1 in
    header-many _ (omega arith) if3.false c.if-h-gt63.true

pub returns-then-t-ne0 : goal.returns-then-t-ne0
returns-then-t-ne0 c =
    let if4 = c.if-h-gt63 in
    let if3 = c.if-h-lt1 in
    header-1 _ (omega arith) if3.false if4.false c.if-t-ne0.true

pub returns-then-t-ne0-2 : goal.returns-then-t-ne0-2
returns-then-t-ne0-2 c =
    let if5 = c.if-t-ne0 in
    let if4 = c.if-h-gt63 in
    let if3 = c.if-h-lt1 in
    header-2 _ (omega arith) if3.false if4.false if5.false c.if-t-ne0-2.true

pub returns : goal.returns
returns c =
    let if6 = c.if-t-ne0-2 in
    let if5 = c.if-t-ne0 in
    let if4 = c.if-h-gt63 in
    let if3 = c.if-h-lt1 in
    header-3 _ (omega arith) if3.false if4.false if5.false if6.false
