use Rattle.std.proofs.Common.{rules}
use Rattle.refusals.specs.declared.Refusal.TheVariants.{BytesAfter}
use Rattle.sheets.proofs.ReadLaws.{read_refused, refused_inside, bytes_after, read_done}
use Rattle.sheets.proofs.reading.read.Goals as goal

pub returns-in_err-taken : goal.returns-in_err-taken
returns-in_err-taken c = search (rules, read_refused, refused_inside)

pub returns-then-taken-sheet : goal.returns-then-taken-sheet
returns-then-taken-sheet c = search (rules, read_refused c.args.sheet.now c.args.room.now BytesAfter, bytes_after)

pub returns : goal.returns
returns c = search (rules, read_done)
