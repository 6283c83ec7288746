-- The sheet is read, and refused, or its job is searched.
use Rattle.std.proofs.Common.{sym, arith}
use lib.Seq.{length-take-le}
use Rattle.rules.specs.Line.{own_room}
use Rattle.rules.proofs.LongestLine.{refused_at_most}
use Rattle.refusals.specs.Numbers.{number_of}
use Rattle.lines.proofs.Fits.{outlets_fit, job_fits}
use Rattle.lines.proofs.Made.{made, refusal_line, answered_line}
use Rattle.lines.proofs.line.Goals as goal

pub returns-in-Err : goal.returns-in-Err
unfolding own_room
returns-in-Err c =
    let s = c.args.sheet.now in
    let w = rw c.number.ensures at c.refused_line.ensures in
    let of_sheet = refusal_line s c.read.new.room c.in-Err.refusal c.in-Err.ensures in
    let fits = refused_at_most (number_of c.in-Err.refusal) (omega (arith, c.number.ensures)) in
    made s c.args.room.now _ of_sheet fits _ w.value w.room_after

pub slice_bounds-outlets-end : goal.slice_bounds-outlets-end
unfolding own_room
slice_bounds-outlets-end c = outlets_fit c.args.sheet.now c.read.new.room c.in-Ok.job c.in-Ok.ensures

pub slice_bounds-search-end : goal.slice_bounds-search-end
unfolding own_room
slice_bounds-search-end c =
    let few = outlets_fit c.args.sheet.now c.read.new.room c.in-Ok.job c.in-Ok.ensures in
    sym (length-take-le _ _ few)

pub slice_bounds-order-end : goal.slice_bounds-order-end
unfolding own_room
slice_bounds-order-end c =
    let few = outlets_fit c.args.sheet.now c.read.new.room c.in-Ok.job c.in-Ok.ensures in
    omega (arith, few, c.read.auto, c.search-answer.auto)

pub slice_bounds-answer_line-end-2 : goal.slice_bounds-answer_line-end-2
unfolding own_room
slice_bounds-answer_line-end-2 c =
    let few = outlets_fit c.args.sheet.now c.read.new.room c.in-Ok.job c.in-Ok.ensures in
    sym (length-take-le _ _ (omega (arith, few, c.read.auto, c.search-answer.auto)))

pub answer_line-requires : goal.answer_line-requires
unfolding own_room
answer_line-requires c =
    let answer = c.search-answer in
    omega (arith, job_fits c.args.sheet.now c.read.new.room c.in-Ok.job c.in-Ok.ensures answer.new.room answer.result answer.ensures)

pub returns : goal.returns
unfolding own_room
returns c =
    let s = c.args.sheet.now in
    let sets = c.read.new.room in
    let job = c.in-Ok.job in
    let answer = c.search-answer in
    let w = c.answer_line.ensures in
    let of_sheet = answered_line s sets job c.in-Ok.ensures answer.new.room answer.result answer.ensures in
    let fits = job_fits s sets job c.in-Ok.ensures answer.new.room answer.result answer.ensures in
    made s c.args.room.now _ of_sheet fits _ w.value w.room_after
