-- What a table of the places of functions by their names stands for.
use Rattle.std.specs.Prelude.{◌≡◌, ℕ, ◌+◌, List}
use Rattle.std.specs.Borrow.{Bor}
use Rattle.std.specs.Option.{option_map}
use Rattle.std.specs.HashMap.{HashMap, get_by}
use Rattle.std.specs.Str.{bytes_eq}
use Rattle.std.specs.declared.hash.FoldHasher.{FoldHasher}
use Rattle.std.specs.declared.hash.BuildHasherDefault.{BuildHasherDefault}
use Rattle.rule_model.specs.Facts.{Declared}
use Rattle.rule_model.specs.Symbols.{function_place}

-- places by names
abbrev pub Table : Type 0
Table = HashMap (Bor (List ℕ)) ℕ (BuildHasherDefault FoldHasher)

-- the table has for each name the place of the first of these functions that has it, counted from n
abbrev pub StandsFrom : ℕ → Table → List Declared → Type 0
StandsFrom n table fs =
    (name : Bor (List ℕ)) → get_by (λ key. bytes_eq name.now key.now) table ≡ option_map (λ p. n + p) (function_place name.now fs)

abbrev pub Stands : Table → List Declared → Type 0
Stands table fs = StandsFrom 0 table fs
