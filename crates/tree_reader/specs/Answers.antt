-- What the reader answers. Want of memory is free.
use Rattle.std.specs.Prelude.{◌≡◌, ℕ, Bool, List, Result, Ok, Err}
use Rattle.tree_model.specs.declared.op_tree.ModuleTree.{ModuleTree}
use Rattle.text_kinds.specs.declared.found.Kind.{Kind}
use Rattle.tree_reading.specs.Reading.{ReadsNot}
use Rattle.tree_reader.specs.declared.reading.ReadRefusal.{ReadRefusal}
use Rattle.tree_reader.specs.declared.reading.ReadRefusal.TheVariants.{At, NoMemory}

-- a refusal at a place is the one of the text
abbrev pub IsRefused : List ℕ → Bool → ReadRefusal → Type 0
IsRefused text allow (At place kind) = ReadsNot text allow place kind
IsRefused text allow NoMemory = Unit {0}

-- the answer is this module, but for want of memory
abbrev pub Gives : ModuleTree → Result ModuleTree ReadRefusal → Type 0
Gives A (Ok B) = A ≡ B
Gives A (Err (At place kind)) = ⊥
Gives A (Err NoMemory) = Unit {0}

-- the answer is this refusal, but for want of memory
abbrev pub Refuses : ℕ → Kind → Result ModuleTree ReadRefusal → Type 0
Refuses place kind (Ok B) = ⊥
Refuses place kind (Err (At other sort)) = (place ≡ other) × (kind ≡ sort)
Refuses place kind (Err NoMemory) = Unit {0}
