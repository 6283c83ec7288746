use Rattle.std.proofs.Common.{sym, rules, arith}
use Rattle.refusals.specs.declared.Refusal.TheVariants.{RoomTooShort}
use Rattle.rules.proofs.Checks.{job_fits}
use Rattle.rules.proofs.Sheet.{sheet_of-length}
use Rattle.sheets.proofs.WriteLaws.{budget_fits, job_refused, refused_by_room, write_refused, write_done}
use Rattle.sheets.proofs.writing.write.Goals as goal

pub returns-in_err-check : goal.returns-in_err-check
returns-in_err-check c = search (rules, write_refused, job_refused)

pub sheet_length-length-requires : goal.sheet_length-length-requires
sheet_length-length-requires c =
    let a = c.args in
    (job_fits a.bins a.outlets.now a.budget (sym c.in_ok-check.ensures.number)).outlets32

pub returns-then-room-length : goal.returns-then-room-length
returns-then-room-length c = search (rules, write_refused c.args.bins c.args.outlets.now c.args.budget c.args.room.now RoomTooShort, refused_by_room, sheet_of-length)

pub put_head-requires : goal.put_head-requires
put_head-requires c =
    let a = c.args in
    let f = job_fits a.bins a.outlets.now a.budget (sym c.in_ok-check.ensures.number) in
    omega (arith, f, budget_fits a.budget f.budget30)

pub returns : goal.returns
returns c =
    let a = c.args in
    let passes = sym c.in_ok-check.ensures.number in
    write_done a.bins a.outlets.now a.budget a.room.now passes (omega (arith, sheet_of-length a.bins a.outlets.now a.budget)) _ c.sheet_length-length.ensures _ _ c.put_head.ensures c.put_records.ensures
