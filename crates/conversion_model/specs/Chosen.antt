-- The chosen derivation of an operation: its leaves, with the casts, as one template.
use Rattle.std.specs.Prelude.{ℕ, zero, suc, ◌+◌, ◌==◌, nat_lt, max, min, Bool, true, false, not, ◌&&◌, ◌||◌, List, [], ◌∷◌, ◌++◌, length, map, get_or, filter, Option, Some, None, if◌then◌else◌, codes}
use Rattle.std.specs.List.{list_any}
use Rattle.std.specs.Str.{bytes_eq}
use Rattle.plain_tree.specs.Types.{PlainType, Void}
use Rattle.conversion_model.specs.declared.templates.Source.{Source}
use Rattle.conversion_model.specs.declared.templates.Source.TheVariants.{Operand, Made}
use Rattle.conversion_model.specs.Types.{new_type}
use Rattle.conversion_model.specs.Templates.{Step, Template}
use Rattle.conversion_model.specs.Targets.{Shape, Target, is_legal, may_be_legal}
use Rattle.conversion_model.specs.Rows.{Row, Straight, Cutting, Framing, Pattern}

-- Depths

abbrev pub deeper : Option ℕ → Option ℕ → Option ℕ
deeper (Some m) (Some n) = Some (max m n)
deeper _ _ = None

-- the greatest depth, none where one has none: 0 of no names
abbrev pub greatest : List (Option ℕ) → Option ℕ
greatest [] = Some 0
greatest (d ∷ ds) = deeper d (greatest ds)

abbrev pub shallower : Option ℕ → Option ℕ → Option ℕ
shallower (Some m) (Some n) = Some (min m n)
shallower (Some m) None = Some m
shallower None other = other

-- the least depth of those that there are
abbrev pub least : List (Option ℕ) → Option ℕ
least [] = None
least (d ∷ ds) = shallower d (least ds)

abbrev pub one_more : Option ℕ → Option ℕ
one_more None = None
one_more (Some n) = Some (n + 1)

-- the depth of a pattern: 1 plus the greatest depth of the names that it may make
abbrev pub pattern_depth : (List ℕ → Option ℕ) → Pattern → Option ℕ
pattern_depth depth p = one_more (greatest (map depth p.makes))

abbrev pub has_root : List ℕ → Pattern → Bool
has_root name p = bytes_eq p.root name

-- the depth of a name by derivations of at most so many levels: 0 where it may be legal, else the least of its patterns
abbrev pub depth_within : Target → List Pattern → ℕ → List ℕ → Option ℕ
depth_within target table zero name = None
depth_within target table (suc room) name =
    if may_be_legal target name then Some 0 else least (map (pattern_depth (depth_within target table room)) (filter (has_root name) table))

-- the depth of a name, none where no derivation over names ends. The shortest one has no pattern twice on one path, so
-- it has no more levels than this.
abbrev pub depth : Target → List Pattern → List ℕ → Option ℕ
depth target table = depth_within target table (length table + 1)

-- The order in which patterns are tried

-- a pattern with its place in the table and its depth
pub record Ranked : Type 0 where
  pub pattern : Pattern
  pub place : ℕ
  pub depth : Option ℕ

-- the patterns of the name, each with its place and its depth
abbrev pub ranked : (Pattern → Option ℕ) → List ℕ → ℕ → List Pattern → List Ranked
ranked depth name place [] = []
ranked depth name place (p ∷ ps) =
    let rest : List Ranked = ranked depth name (place + 1) ps in
    if has_root name p then record { pattern = p; place = place; depth = depth p } ∷ rest else rest

-- less depth, where none is more than any
abbrev pub is_less_deep : Option ℕ → Option ℕ → Bool
is_less_deep (Some m) (Some n) = nat_lt m n
is_less_deep (Some m) None = true
is_less_deep None other = false

-- whether the pattern is tried before the other wherever they stand: less depth, then greater benefit
abbrev pub goes_before : Ranked → Ranked → Bool
goes_before p q = is_less_deep p.depth q.depth || (not (is_less_deep q.depth p.depth) && nat_lt q.pattern.benefit p.pattern.benefit)

-- behind those that go before it, in front of all others
abbrev pub put_in : Ranked → List Ranked → List Ranked
put_in p [] = p ∷ []
put_in p (q ∷ qs) = if goes_before q p then q ∷ put_in p qs else p ∷ q ∷ qs

abbrev pub in_order : List Ranked → List Ranked
in_order [] = []
in_order (p ∷ ps) = put_in p (in_order ps)

-- the patterns of the name by less depth, then greater benefit, then place in the table
abbrev pub order : Target → List Pattern → List ℕ → List Ranked
order target table name = in_order (ranked (pattern_depth (depth target table)) name 0 table)

-- Composition

abbrev pub and_then : {A B : Type 0} → Option A → (A → Option B) → Option B
and_then None next = None
and_then (Some x) next = next x

abbrev pub or_else : {A : Type 0} → Option A → Option A → Option A
or_else None other = other
or_else (Some x) other = Some x

-- what stands so far of a derivation: where the operands of products are found and their types, the same of the values
-- that products made, and how many values there are
pub record State : Type 0 where
  pub operands : List Source
  pub operand_types : List PlainType
  pub made : List Source
  pub made_types : List PlainType
  pub count : ℕ

-- how a derivation goes on
abbrev pub Ending : Type 0
Ending = State → Option Template

-- what a source of a product is in the whole template
abbrev pub here : State → Source → Source
here s (Operand k) = get_or s.operands k (Operand k)
here s (Made k) = get_or s.made k (Made k)

abbrev pub type_here : State → Source → PlainType
type_here s (Operand k) = get_or s.operand_types k Void
type_here s (Made k) = get_or s.made_types k Void

-- the shape of a product
abbrev pub product : State → Step → Shape
product s x = record {
  name = x.name;
  operands = map (type_here s) x.sources;
  results = x.makes;
  props = x.props;
  attrs = [];
  successors = length x.successors;
  regions = 0;
}

-- what a source of an inner template is, in whose place these operands and values from `base` on stand
abbrev pub placed : List Source → ℕ → Source → Source
placed operands base (Operand k) = get_or operands k (Operand k)
placed operands base (Made k) = Made (base + k)

abbrev pub moved_step : List Source → ℕ → List ℕ → Step → Step
moved_step operands base successors x = record {
  name = x.name;
  props = x.props;
  sources = map (placed operands base) x.sources;
  successors = map (λ k. get_or successors k 0) x.successors;
  makes = x.makes;
}

abbrev pub with_step : Step → Template → Template
with_step x t = record { steps = x ∷ t.steps; results = t.results }

abbrev pub with_result : Source → Template → Template
with_result r t = record { steps = t.steps; results = r ∷ t.results }

-- the steps of an inner template, in a product's place, in front of the rest
abbrev pub with_moved : State → Step → Template → Template → Template
with_moved s x t rest = record { steps = map (moved_step (map (here s) x.sources) s.count x.successors) t.steps ++ rest.steps; results = rest.results }

abbrev pub made_by : List Step → ℕ
made_by [] = 0
made_by (x ∷ xs) = length x.makes + made_by xs

-- behind a product in whose place the inner template stands
abbrev pub after : State → Step → Template → State
after s x t = record {
  operands = s.operands;
  operand_types = s.operand_types;
  made = s.made ++ map (placed (map (here s) x.sources) s.count) t.results;
  made_types = s.made_types ++ x.makes;
  count = s.count + made_by t.steps;
}

-- from the shape of an operation to the leaves of its derivation, where it is legalised
abbrev pub Leaves : Type 0
Leaves = Shape → Option Template

-- the leaves of each product in order
abbrev pub products : Leaves → Ending → List Step → State → Option Template
products leaves last [] s = last s
products leaves last (x ∷ xs) s =
    and_then (leaves (product s x)) (λ t. and_then (products leaves last xs (after s x t)) (λ rest. Some (with_moved s x t rest)))

-- a cast of that value to that type
abbrev pub cast : Source → PlainType → Step
cast value t = record { name = codes "builtin.unrealized_conversion_cast"; props = []; sources = value ∷ []; successors = []; makes = t ∷ [] }

abbrev pub with_operand : Source → PlainType → ℕ → State → State
with_operand value t more s = record {
  operands = s.operands ++ value ∷ [];
  operand_types = s.operand_types ++ t ∷ [];
  made = s.made;
  made_types = s.made_types;
  count = s.count + more;
}

-- an operand, with a cast in front where its type changes
abbrev pub take_one : Option PlainType → ℕ → PlainType → Ending → Ending
take_one None k t next s = next (with_operand (Operand k) t 0 s)
take_one (Some u) k t next s = and_then (next (with_operand (Made s.count) u 1 s)) (λ rest. Some (with_step (cast (Operand k) u) rest))

-- each operand from the k-th on, in order
abbrev pub take_operands : (PlainType → Option PlainType) → Ending → ℕ → List PlainType → Ending
take_operands change next k [] s = next s
take_operands change next k (t ∷ ts) s = take_one (change t) k t (take_operands change next (k + 1) ts) s

-- a result, with a cast behind where its type changes; n counts the values so far
abbrev pub give_one : Option PlainType → Source → PlainType → (ℕ → Template) → ℕ → Template
give_one None value t next n = with_result value (next n)
give_one (Some u) value t next n = with_step (cast value t) (with_result (Made n) (next (n + 1)))

-- each result in order
abbrev pub give_results : (PlainType → Option PlainType) → List PlainType → List Source → ℕ → Template
give_results change [] values n = record { steps = []; results = [] }
give_results change (t ∷ ts) [] n = record { steps = []; results = [] }
give_results change (t ∷ ts) (v ∷ vs) n = give_one (change t) v t (give_results change ts vs) n

abbrev pub nothing_yet : State
nothing_yet = record { operands = []; operand_types = []; made = []; made_types = []; count = 0 }

-- by a template: casts of the operands, the leaves of the products, casts of the results
abbrev pub by_template : (PlainType → Option PlainType) → Leaves → Shape → Template → Option Template
by_template change leaves o t =
    take_operands change (products leaves (λ s. Some (give_results change o.results (map (here s) t.results) s.count)) t.steps) 0 o.operands nothing_yet

-- the types that change for a pattern: none where it takes them as they are
abbrev pub change_of : ℕ → Bool → PlainType → Option PlainType
change_of bits true t = new_type bits t
change_of bits false t = None

-- by the row of a pattern. A product has no regions, so a row that cuts or frames applies to none.
abbrev pub by_row : ℕ → Bool → Leaves → Shape → Row → Option Template
by_row bits converted leaves o (Straight row) = and_then (row o) (by_template (change_of bits converted) leaves o)
by_row bits converted leaves o (Cutting row) = None
by_row bits converted leaves o (Framing row) = None

-- by the first pattern in order that isn't on the path and all of whose products are legalised on the path with it
abbrev pub by_first : ℕ → (List ℕ → Leaves) → List ℕ → Shape → List Ranked → Option Template
by_first bits leaves path o [] = None
by_first bits leaves path o (r ∷ rs) =
    if list_any (λ place. place == r.place) path then by_first bits leaves path o rs
    else or_else (by_row bits r.pattern.is_converted (leaves (r.place ∷ path)) o (r.pattern.row bits)) (by_first bits leaves path o rs)

-- places from k on
abbrev pub places : {A : Type 0} → ℕ → List A → List ℕ
places k [] = []
places k (x ∷ xs) = k ∷ places (k + 1) xs

abbrev pub counted : ℕ → ℕ → List ℕ
counted k zero = []
counted k (suc n) = k ∷ counted (k + 1) n

-- a legal operation is its own leaf
abbrev pub itself : Shape → Template
itself o = record {
  steps = record { name = o.name; props = o.props; sources = map Operand (places 0 o.operands); successors = counted 0 o.successors; makes = o.results } ∷ [];
  results = map Made (places 0 o.results);
}

-- the leaves of the chosen derivation of at most so many levels, by patterns that are not on the path; order gives the
-- patterns of a name
abbrev pub chosen_within : ℕ → Target → (List ℕ → List Ranked) → ℕ → List ℕ → Leaves
chosen_within bits target order zero path o = None
chosen_within bits target order (suc room) path o =
    if is_legal target o then Some (itself o) else by_first bits (chosen_within bits target order room) path o (order o.name)

-- A path has no pattern twice, so it has no more levels than this.
abbrev pub chosen : ℕ → Target → List Pattern → List ℕ → Leaves
chosen bits target table = chosen_within bits target (order target table) (length table + 1)
