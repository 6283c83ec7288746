-- Bytes that were put in front of a room: the room after them is as before.
use Rattle.std.specs.Prelude.{List, ◌++◌, ℕ, length, drop}

abbrev pub in_front : List ℕ → List ℕ → List ℕ
in_front bytes room = bytes ++ drop (length bytes) room
