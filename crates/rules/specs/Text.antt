-- A text as its bytes, one for each character: how this library writes the words of a line (characters of ASCII, whose code is their byte).
use Prim.Native.Char.{code}
use Prim.Native.String.{String, [], ◌∷◌}
use Rattle.std.specs.Prelude.{ℕ, List, [] as none, ◌∷◌ as ◌then◌}

unfoldable pub text : String → List ℕ
text [] = none
text (c ∷ s) = code c then text s
