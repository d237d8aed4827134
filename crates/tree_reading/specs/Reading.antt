-- The module that a text denotes, and the refusal of a text that denotes none.
use Rattle.std.specs.Prelude.{◌≡◌, ℕ, Bool, List, Some, None}
use Rattle.tree_model.specs.declared.op_tree.ModuleTree.{ModuleTree}
use Rattle.text_events.specs.Names.{names_of}
use Rattle.text_events.specs.Source.{events_of}
use Rattle.text_scopes.specs.Bodies.{class_in}
use Rattle.text_kinds.specs.declared.found.Kind.{Kind}
use Rattle.text_refusals.specs.Classes.{classes_of}
use Rattle.text_refusals.specs.Refusing.{Seen, IsSeen, Refuses}
use Rattle.text_refusals.specs.Spelling.{spelling_of}
use Rattle.event_trees.specs.Wording.{wording_of}
use Rattle.event_trees.specs.Modules.{denoted}

-- what the words of the text at these places denote
abbrev pub denoted_by : List ℕ → Seen → ModuleTree
denoted_by text s =
    denoted (spelling_of text s.words) (wording_of text s.words) (class_in (classes_of text s.words)) (events_of s.places (names_of text s.words))

-- the events of the text denote this module
abbrev pub Denotes : List ℕ → ModuleTree → Type 0
Denotes text A = (s : Seen) × IsSeen text s × (A ≡ denoted_by text s)

-- the text is refused by nothing, and its events denote this module
pub record Reads (text : List ℕ) (allowed : Bool) (A : ModuleTree) : Type 0 where
  pub unrefused : Refuses text allowed None
  pub denotes : Denotes text A

-- the text is refused at this byte as of this kind
abbrev pub ReadsNot : List ℕ → Bool → ℕ → Kind → Type 0
ReadsNot text allowed place kind = Refuses text allowed (Some (record { place = place; kind = kind }))
