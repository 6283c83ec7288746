-- Parts of a line: the outlets of an order, each behind a blank; what stands before them and behind them;
-- the last words with their number and the line's end.
use Rattle.std.specs.Prelude.{List, [], ◌∷◌, ◌++◌, ℕ}
use Rattle.rules.specs.Text.{text}
use Rattle.rules.specs.Line.{blank, line_feed, decimal}

-- a piece for each number of a row, one after another
unfoldable pub pieces : (ℕ → List ℕ) → List ℕ → List ℕ
pieces piece [] = []
pieces piece (x ∷ l) = piece x ++ pieces piece l

abbrev pub outlet_piece : ℕ → List ℕ
outlet_piece o = (blank ∷ []) ++ decimal o

abbrev pub outlets_part : List ℕ → List ℕ
outlets_part order = pieces outlet_piece order

abbrev pub order_part : List ℕ → List ℕ
order_part order = text "order" ++ outlets_part order

abbrev pub crossings_part : List ℕ → ℕ → List ℕ
crossings_part order count = order_part order ++ (text " crossings " ++ decimal count)

abbrev pub last_part : List ℕ → ℕ → List ℕ
last_part words n = (words ++ decimal n) ++ (line_feed ∷ [])
