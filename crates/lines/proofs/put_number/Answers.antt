-- The library's text of a number is the rules' decimal.
use Rattle.std.proofs.Common.{length, ◌∙◌, ap, arith}
use Rattle.sheets.specs.Writing.{in_front}
use Rattle.lines.proofs.Laws.{same_decimal}
use Rattle.lines.proofs.put_number.Goals as goal

pub put_word-requires : goal.put_word-requires
put_word-requires c = rw (c.as_bytes.ensures.value, c.format.ensures.text, same_decimal c.args.n (omega arith)) c.requires

pub returns-clause-value : goal.returns-clause-value
returns-clause-value c =
    c.put_word.ensures.value ∙ ap length (c.as_bytes.ensures.value ∙ c.format.ensures.text ∙ same_decimal c.args.n (omega arith))

pub returns-clause-room_after : goal.returns-clause-room_after
returns-clause-room_after c =
    c.put_word.ensures.room_after
    ∙ ap (λ l. in_front l c.args.room.now) (c.as_bytes.ensures.value ∙ c.format.ensures.text ∙ same_decimal c.args.n (omega arith))
