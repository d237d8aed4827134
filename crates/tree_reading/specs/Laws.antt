-- What holds of every text.
use Rattle.std.specs.Prelude.{◌≡◌, ◌⊎◌, ℕ, Bool, List}
use Rattle.tree_model.specs.declared.op_tree.ModuleTree.{ModuleTree}
use Rattle.text_kinds.specs.declared.found.Kind.{Kind}
use Rattle.tree_reading.specs.Reading.{Reads, ReadsNot}

-- a text reads as one module
abbrev pub OneModule : Type 0
OneModule = (text : List ℕ) (allowed : Bool) (A B : ModuleTree) → Reads text allowed A → Reads text allowed B → A ≡ B

-- and whether unregistered operations are allowed doesn't change it
abbrev pub SameModule : Type 0
SameModule = (text : List ℕ) (A B : ModuleTree) (p q : Bool) → Reads text p A → Reads text q B → A ≡ B

-- a text that reads as a module isn't refused
abbrev pub NeverBoth : Type 0
NeverBoth = (text : List ℕ) (allowed : Bool) (A : ModuleTree) (place : ℕ) (kind : Kind) → Reads text allowed A → ReadsNot text allowed place kind → ⊥

-- a text is refused at one byte, as of one kind
abbrev pub OneRefusal : Type 0
OneRefusal = (text : List ℕ) (allowed : Bool) (place other : ℕ) (kind sort : Kind) → ReadsNot text allowed place kind → ReadsNot text allowed other sort → (place ≡ other) × (kind ≡ sort)

-- each text reads as a module or is refused
abbrev pub OneOfTheTwo : Type 0
OneOfTheTwo = (text : List ℕ) (allowed : Bool) → ((A : ModuleTree) × Reads text allowed A) ⊎ ((place : ℕ) × (kind : Kind) × ReadsNot text allowed place kind)
