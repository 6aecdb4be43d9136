-- Numbers, letters and addresses as texts spell them.
use Rattle.std.specs.Prelude.{ℕ, ◌*◌, ◌++◌, false, List, codes, decimal, Option, Some, None}
use Rattle.std.specs.Fmt.{digits}
use Rattle.op_model.specs.declared.operations.Kind.{Kind}
use Rattle.op_model.specs.declared.operations.Kind.TheVariants.{Load, Store, Swap, Add}

-- lower-case digits without leading zeros
abbrev pub hexadecimal : ℕ → List ℕ
hexadecimal n = digits 16 false n

abbrev pub letter : Kind → List ℕ
letter Load = codes "L"
letter Store = codes "S"
letter Swap = codes "X"
letter Add = codes "A"

-- the byte address of a word: eight bytes are one word
abbrev pub address : ℕ → List ℕ
address word = codes "0x" ++ hexadecimal (8 * word)

-- a number, or - where there is none
abbrev pub decimal_or_dash : Option ℕ → List ℕ
decimal_or_dash None = codes "-"
decimal_or_dash (Some n) = decimal n

-- a line of a name, with the space behind it, and a number
abbrev pub named : List ℕ → ℕ → List ℕ
named name n = name ++ decimal n ++ codes "\n"
