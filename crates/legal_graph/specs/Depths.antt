-- Depths of names, from what the patterns say of themselves.
use Rattle.std.specs.Prelude.{ℕ, zero, suc, ◌==◌, Bool, List, [], ◌∷◌, map, Option, Some, None, if◌then◌else◌}
use Rattle.std.specs.List.{list_any}
use Rattle.std.specs.Str.{bytes_eq}
use Rattle.conversion_model.specs.Chosen.{greatest, one_more, shallower}
use Rattle.legal_graph.specs.declared.infos.PatternInfo.{PatternInfo}

abbrev pub is_among : List (List ℕ) → List ℕ → Bool
is_among names name = list_any (λ n. bytes_eq n name) names

-- the depth of each name
abbrev pub DepthOf : Type 0
DepthOf = List ℕ → Option ℕ

abbrev pub greatest_of : DepthOf → List (List ℕ) → Option ℕ
greatest_of depth names = greatest (map depth names)

-- the depth of a pattern, where names have these depths
abbrev pub own_depth : DepthOf → PatternInfo → Option ℕ
own_depth depth p = one_more (greatest_of depth p.products)

-- the least depth of the patterns with that root
abbrev pub least_of : DepthOf → List PatternInfo → DepthOf
least_of depth [] name = None
least_of depth (p ∷ ps) name = if bytes_eq p.root name then shallower (own_depth depth p) (least_of depth ps name) else least_of depth ps name

-- 0 for legal names, else what is found
abbrev pub level : (List ℕ → Bool) → DepthOf → DepthOf
level legal found name = if legal name then Some 0 else found name

-- the depths by derivations of at most so many levels
abbrev pub depth_in : (List ℕ → Bool) → List PatternInfo → ℕ → DepthOf
depth_in legal infos zero name = None
depth_in legal infos (suc n) name = level legal (least_of (depth_in legal infos n) infos) name
