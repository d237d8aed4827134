-- The order of diagnostics.
use Rattle.std.specs.Prelude.{◌≡◌, ◌≤◌, Bool, List}
use Rattle.std.specs.List.{count_by}
use Rattle.std.specs.List.Sorted.{IsPermutation, IsSorted}
use Rattle.std.specs.Ordering.{is_eq, nat_cmp, ordering_then}
use Rattle.std.specs.declared.cmp.Ordering.{Ordering}
use Rattle.ordered_diags.specs.declared.diag.Diag.{Diag}

-- by function, then by pass, then by line
abbrev pub diag_cmp : Diag → Diag → Ordering
diag_cmp d e = ordering_then (ordering_then (nat_cmp d.function e.function) (nat_cmp d.pass e.pass)) (nat_cmp d.sequence e.sequence)

-- none stands behind one that comes after it
abbrev pub IsInOrder : List Diag → Type 0
IsInOrder ds = IsSorted diag_cmp ds

-- the same function, pass and line: neither comes before the other
abbrev pub agrees : Diag → Diag → Bool
agrees d e = is_eq (diag_cmp d e)

-- no two have the same function, pass and line
abbrev pub NoTwoAgree : List Diag → Type 0
NoTwoAgree ds = (d : Diag) → count_by (agrees d) ds ≤ 1

-- the lines of a list, in order
pub record IsMerged (given merged : List Diag) : Type 0 where
  pub all : IsPermutation given merged
  pub in_order : IsInOrder merged

-- however the same lines were given: where no two agree they are merged to one list
abbrev pub OneOrder : Type 0
OneOrder = (a b r s : List Diag) → IsPermutation a b → NoTwoAgree a → IsMerged a r → IsMerged b s → r ≡ s
