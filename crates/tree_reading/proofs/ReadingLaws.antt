-- The laws of reading.
use Rattle.std.proofs.Common.{◌≡◌, ℕ, Bool, List, Option, Some, None, refl, sym, ◌∙◌, ap, inl, inr}
use Rattle.text_kinds.specs.declared.found.Found.{Found}
use Rattle.text_kinds.specs.declared.found.Kind.{Kind}
use Rattle.text_refusals.proofs.SeenLemmas.{one_refusal, seen_once}
use Rattle.std.specs.Prelude.{◌⊎◌}
use Rattle.tree_model.specs.declared.op_tree.ModuleTree.{ModuleTree}
use Rattle.text_refusals.specs.Refusing.{Refuses, refusal_of}
use Rattle.tree_reading.proofs.SeenSome.{SomeSeen, seen_some}
use Rattle.tree_reading.specs.Reading.{Reads, ReadsNot, denoted_by}
use Rattle.tree_reading.specs.Laws.{NeverBoth, OneModule, OneOfTheTwo, OneRefusal, SameModule}

pub same_module : SameModule
same_module text A B p q a b =
    let (s, x, e) = a.denotes in let (t, y, f) = b.denotes in
    e ∙ ap (denoted_by text) (seen_once text s t x y) ∙ sym f

pub one_module : OneModule
one_module text allowed A B a b = same_module text A B allowed allowed a b

abbrev at : ℕ → Kind → Found
at place kind = record { place = place; kind = kind }

none_is_none : (found : Found) → None ≡ Some found → ⊥
none_is_none found e = cc

same_found : (place other : ℕ) (kind sort : Kind) → Some (at place kind) ≡ Some (at other sort) → (place ≡ other) × (kind ≡ sort)
same_found place other kind sort e = let same : at place kind ≡ at other sort = cc in (ap (λ (f : Found). f.place) same, ap (λ (f : Found). f.kind) same)

pub never_both : NeverBoth
never_both text allowed A place kind a b = none_is_none (at place kind) (one_refusal text allowed None (Some (at place kind)) a.unrefused b)

pub refused_once : OneRefusal
refused_once text allowed place other kind sort a b = same_found place other kind sort (one_refusal text allowed (Some (at place kind)) (Some (at other sort)) a b)

told : (text : List ℕ) (allowed : Bool) (found : Option Found) → Refuses text allowed found
    → ((A : ModuleTree) × Reads text allowed A) ⊎ ((place : ℕ) × (kind : Kind) × ReadsNot text allowed place kind)
told text allowed None h = let (s, x, e) = h in inl (denoted_by text s, record { unrefused = h; denotes = (s, x, refl) })
told text allowed (Some found) h = inr (found.place, found.kind, h)

pub one_of_the_two : OneOfTheTwo
one_of_the_two text allowed =
    let some : SomeSeen text = seen_some text in
    told text allowed (refusal_of text allowed some.seen) (some.seen, some.is, refl)
