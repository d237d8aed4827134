-- The rows of scf define only results, arguments of blocks and new values, and hold only blocks, each at most once.
use Rattle.std.proofs.Common.{◌≡◌, ℕ, zero, suc, ◌+◌, ◌*◌, ◌==◌, ◌≤◌, Bool, true, false, List, [], ◌∷◌, Option, Some, None, refl, sym, ap, subst, arith, length, map, true≢false}
use Rattle.std.specs.Prelude.{ℤ, ◌&&◌, ⊤, is_some, if◌then◌else◌, codes}
use Rattle.std.proofs.lemmas.Bool.{eqb-true}
use Rattle.plain_tree.specs.Types.{PlainType}
use Rattle.plain_tree.specs.Attrs.{PlainAttr, entry}
use Rattle.plain_tree.specs.Attrs as attr
use Rattle.plain_tree.specs.Ops.{Kind, Op, op, Ops, Regions, end_of_regions, region, Blocks, end_of_blocks, block, Values}
use Rattle.conversion_model.specs.Rows.{Cutting, Numbers, Opens, Piece}
use Rattle.conversion_model.specs.Reconciled.{results_of}
use Rattle.conversion_model.specs.Conversion.{regions_of}
use Rattle.conversion_model.specs.Counts.{block_heads, held_count, hits, named_count, none, pieces_total, PiecesOnce, region_heads, RowOnce, values_total}
use Rattle.pattern_model.specs.ScfRows.{Single, case_pieces, execute_row, for_of, for_row, head_pieces, held_block, held_blocks, if_alone, if_of, if_row, or_none, passed_by, single, singles, stand_for, switch_blocks, switch_cases, switch_pieces, switch_row, tests, while_of, while_passed, while_row, with_single, yields_to}

-- Weights of new numbers

abbrev up : (ℕ → ℕ) → (ℕ → ℕ) → ℕ → ℕ → ℕ
up weight name n zero = 0
up weight name n (suc room) = weight (name n) + up weight name (n + 1) room

up_count : (v : ℕ) (name : ℕ → ℕ) (n room : ℕ) → named_count v name n room ≡ up (hits v) name n room
up_count v name n zero = refl
up_count v name n (suc room) = ap (λ k. hits v (name n) + k) (up_count v name (n + 1) room)

up_none : (name : ℕ → ℕ) (n room : ℕ) → up none name n room ≡ 0
up_none name n zero = refl
up_none name n (suc room) = omega (arith, up_none name (n + 1) room)

up_more : (weight name : ℕ → ℕ) (n room : ℕ) → up weight name n room ≤ up weight name n (suc room)
up_more weight name n zero = omega arith
up_more weight name n (suc room) = omega (arith, up_more weight name (n + 1) room)

no_values : (vs : Values) → values_total none vs ≡ 0
no_values [] = refl
no_values (v ∷ vs) = omega (arith, no_values vs)

-- a bound for all weights
abbrev Bounded : Numbers → Op → List Piece → ℕ → Type 0
Bounded new o ps room = (value label : ℕ → ℕ)
    → pieces_total value label ps ≤ values_total value (results_of o) + (region_heads value label (regions_of o) + (up value new.value 0 room + up label new.label 0 room))

once_by : (new : Numbers) (o : Op) (ps : List Piece) (room : ℕ) → Bounded new o ps room → ((r b : ℕ) → held_count r b ps ≤ 1) → PiecesOnce new o ps
once_by new o ps room bounded held = record {
  room = room;
  values = λ v. omega (arith, bounded (hits v) none, up_count v new.value 0 room, up_none new.label 0 room);
  labels = λ l. omega (arith, bounded none (hits l), up_count l new.label 0 room, up_none new.value 0 room, no_values (results_of o));
  held = held;
}

abbrev CutIs : Numbers → Op → Option (List Piece) → Type 0
CutIs new o None = ⊤
CutIs new o (Some ps) = PiecesOnce new o ps

abbrev pieces_or : List Piece → Option (List Piece) → List Piece
pieces_or other None = other
pieces_or other (Some ps) = ps

cut_is : (new : Numbers) (o : Op) (x : Option (List Piece)) (ps : List Piece) → CutIs new o x → x ≡ Some ps → PiecesOnce new o ps
cut_is new o None ps once is = absurd (true≢false (sym (ap (λ (x : Option (List Piece)). is_some x) is)))
cut_is new o (Some qs) ps once is = subst (λ ps. PiecesOnce new o ps) (ap (pieces_or []) is) once

-- Held blocks

abbrev one_if : Bool → ℕ
one_if b = if b then 1 else 0

one_by : (a b : Bool) (q r : ℕ) → (q == r) ≡ a → 1 ≤ one_if (a && b) → q ≡ r
one_by true b q r is some = eqb-true q r is
one_by false b q r is some = absurd (omega (arith, some))

first_same : (q r c b : ℕ) → 1 ≤ one_if ((q == r) && (c == b)) → q ≡ r
first_same q r c b some = one_by (q == r) (c == b) q r refl some

second_by : (a d : Bool) (c b : ℕ) → (c == b) ≡ d → 1 ≤ one_if (a && d) → c ≡ b
second_by a true c b is some = eqb-true c b is
second_by true false c b is some = absurd (omega (arith, some))
second_by false false c b is some = absurd (omega (arith, some))

second_same : (q r c b : ℕ) → 1 ≤ one_if ((q == r) && (c == b)) → c ≡ b
second_same q r c b some = second_by (q == r) (c == b) c b refl some

at_most_one : (b : Bool) → one_if b ≤ 1
at_most_one true = omega arith
at_most_one false = omega arith

not_both : (h c : ℕ) → h ≤ 1 → c ≤ 1 → (1 ≤ h → 1 ≤ c → ⊥) → h + c ≤ 1
not_both zero c l m apart = omega (arith, m)
not_both (suc h) zero l m apart = omega (arith, l)
not_both (suc h) (suc c) l m apart = absurd (apart (omega arith) (omega arith))

one_of : {P : Type 0} (h c : ℕ) → (1 ≤ h → P) → (1 ≤ c → P) → 1 ≤ h + c → P
one_of zero c left right some = right (omega (arith, some))
one_of (suc h) c left right some = left (omega arith)

two_held : (r b : ℕ) → one_if ((0 == r) && (0 == b)) + one_if ((1 == r) && (0 == b)) ≤ 1
two_held r b =
    not_both (one_if ((0 == r) && (0 == b))) (one_if ((1 == r) && (0 == b))) (at_most_one ((0 == r) && (0 == b))) (at_most_one ((1 == r) && (0 == b)))
    (λ p q. omega (arith, first_same 0 r 0 b p, first_same 1 r 0 b q))

-- Regions of one block

abbrev single_total : (ℕ → ℕ) → (ℕ → ℕ) → Single → ℕ
single_total value label s = label s.label + values_total value s.args

abbrev SingleIs : Blocks → Option Single → Type 0
SingleIs bs None = ⊤
SingleIs bs (Some s) = (value label : ℕ → ℕ) → single_total value label s ≤ block_heads value label bs

single_is : (bs : Blocks) → SingleIs bs (single bs)
single_is end_of_blocks = tt
single_is (block l args ops end_of_blocks) = λ value label. omega arith
single_is (block l args ops (block m more os bs)) = tt

abbrev singles_total : (ℕ → ℕ) → (ℕ → ℕ) → List Single → ℕ
singles_total value label [] = 0
singles_total value label (s ∷ ss) = single_total value label s + singles_total value label ss

abbrev SinglesAre : Regions → Option (List Single) → Type 0
SinglesAre rs None = ⊤
SinglesAre rs (Some ss) = (value label : ℕ → ℕ) → singles_total value label ss ≤ region_heads value label rs

with_is : (bs : Blocks) (rs : Regions) (x : Option Single) (y : Option (List Single)) → SingleIs bs x → SinglesAre rs y → SinglesAre (region bs rs) (with_single x y)
with_is bs rs None y here rest = tt
with_is bs rs (Some s) None here rest = tt
with_is bs rs (Some s) (Some ss) here rest = λ value label. omega (arith, here value label, rest value label)

singles_are : (rs : Regions) → SinglesAre rs (singles rs)
singles_are end_of_regions = λ value label. omega arith
singles_are (region bs rs) = with_is bs rs (single bs) (singles rs) (single_is bs) (singles_are rs)

-- scf.if

alone_is : (new : Numbers) (type_of : ℕ → PlainType) (k : Kind) (results : Values) (c : ℕ) (first : Blocks) (x : Option Single) → SingleIs first x
    → CutIs new (op k results (c ∷ []) (region first (region end_of_blocks end_of_regions)) []) (if_alone new type_of results c x)
alone_is new type_of k results c first None is = tt
alone_is new type_of k results c first (Some s) is =
    once_by new (op k results (c ∷ []) (region first (region end_of_blocks end_of_regions)) []) _ 1 (λ value label. omega (arith, is value label))
    (λ r b. omega (arith, at_most_one ((0 == r) && (0 == b))))

if_is : (new : Numbers) (type_of : ℕ → PlainType) (k : Kind) (results : Values) (c : ℕ) (first other : Blocks) (x y : Option Single) → SingleIs first x → SingleIs other y
    → CutIs new (op k results (c ∷ []) (region first (region other end_of_regions)) []) (if_of new type_of results c x y)
if_is new type_of k results c first other None y is also = tt
if_is new type_of k results c first other (Some s) None is also = tt
if_is new type_of k results c first other (Some s) (Some u) is also =
    once_by new (op k results (c ∷ []) (region first (region other end_of_regions)) []) _ 1 (λ value label. omega (arith, is value label, also value label))
    (λ r b. omega (arith, two_held r b))

if_cut : (new : Numbers) (type_of : ℕ → PlainType) (o : Op) → CutIs new o (if_row new type_of o)
if_cut new type_of (op k results (c ∷ []) (region first (region end_of_blocks end_of_regions)) []) = alone_is new type_of k results c first (single first) (single_is first)
if_cut new type_of (op k results (c ∷ []) (region first (region (block l args ops bs) end_of_regions)) []) =
    if_is new type_of k results c first (block l args ops bs) (single first) (single (block l args ops bs)) (single_is first) (single_is (block l args ops bs))
if_cut new type_of _ = tt

pub if_once : RowOnce (Cutting if_row)
if_once new type_of o ps is = cut_is new o (if_row new type_of o) ps (if_cut new type_of o) is

-- scf.for

stand_total : (value label : ℕ → ℕ) (rs : Values) (vs : List ℕ) → pieces_total value label (stand_for rs vs) ≤ values_total value rs
stand_total value label [] vs = omega arith
stand_total value label (r ∷ rs) [] = omega arith
stand_total value label (r ∷ rs) (v ∷ vs) = omega (arith, stand_total value label rs vs)

stand_held : (r b : ℕ) (rs : Values) (vs : List ℕ) → held_count r b (stand_for rs vs) ≡ 0
stand_held r b [] vs = refl
stand_held r b (x ∷ rs) [] = refl
stand_held r b (x ∷ rs) (v ∷ vs) = stand_held r b rs vs

for_is : (new : Numbers) (type_of : ℕ → PlainType) (k : Kind) (results : Values) (lower upper step : ℕ) (initial : List ℕ) (body : ℕ) (args : Values) (ops : Ops) (passed : List ℕ)
    → CutIs new (op k results (lower ∷ upper ∷ step ∷ initial) (region (block body args ops end_of_blocks) end_of_regions) []) (for_of new type_of results lower upper step initial body args passed)
for_is new type_of k results lower upper step initial body [] ops passed = tt
for_is new type_of k results lower upper step initial body (iv ∷ accs) ops passed =
    once_by new (op k results (lower ∷ upper ∷ step ∷ initial) (region (block body (iv ∷ accs) ops end_of_blocks) end_of_regions) []) _ 2
    (λ value label. omega (arith, stand_total value label results (map (λ (a : ℕ × PlainType). a.0) accs)))
    (λ r b. omega (arith, at_most_one ((0 == r) && (0 == b)), stand_held r b results (map (λ (a : ℕ × PlainType). a.0) accs)))

for_cut : (new : Numbers) (type_of : ℕ → PlainType) (o : Op) → CutIs new o (for_row new type_of o)
for_cut new type_of (op k results (lower ∷ upper ∷ step ∷ initial) (region (block body args ops end_of_blocks) end_of_regions) []) =
    for_is new type_of k results lower upper step initial body args ops (or_none (passed_by ops))
for_cut new type_of _ = tt

pub for_once : RowOnce (Cutting for_row)
for_once new type_of o ps is = cut_is new o (for_row new type_of o) ps (for_cut new type_of o) is

-- scf.while

passed_is : (new : Numbers) (type_of : ℕ → PlainType) (k : Kind) (results : Values) (initial : List ℕ) (bs cs : Blocks) (before after : Single) (passed : List ℕ) → SingleIs bs (Some before) → SingleIs cs (Some after)
    → CutIs new (op k results initial (region bs (region cs end_of_regions)) []) (while_passed new type_of results initial before passed after)
passed_is new type_of k results initial bs cs before after [] is also = tt
passed_is new type_of k results initial bs cs before after (c ∷ values) is also =
    once_by new (op k results initial (region bs (region cs end_of_regions)) []) _ 1
    (λ value label. omega (arith, is value label, also value label, stand_total value label results values))
    (λ r b. omega (arith, two_held r b, stand_held r b results values))

while_is : (new : Numbers) (type_of : ℕ → PlainType) (k : Kind) (results : Values) (initial : List ℕ) (bs cs : Blocks) (x y : Option Single) → SingleIs bs x → SingleIs cs y
    → CutIs new (op k results initial (region bs (region cs end_of_regions)) []) (while_of new type_of results initial x y)
while_is new type_of k results initial bs cs None y is also = tt
while_is new type_of k results initial bs cs (Some before) None is also = tt
while_is new type_of k results initial bs cs (Some before) (Some after) is also = passed_is new type_of k results initial bs cs before after before.passed is also

while_cut : (new : Numbers) (type_of : ℕ → PlainType) (o : Op) → CutIs new o (while_row new type_of o)
while_cut new type_of (op k results initial (region before (region after end_of_regions)) []) = while_is new type_of k results initial before after (single before) (single after) (single_is before) (single_is after)
while_cut new type_of _ = tt

pub while_once : RowOnce (Cutting while_row)
while_once new type_of o ps is = cut_is new o (while_row new type_of o) ps (while_cut new type_of o) is

-- scf.index_switch

abbrev double : ℕ → ℕ
double zero = 0
double (suc n) = suc (suc (double n))

later : (weight name : ℕ → ℕ) (j room : ℕ) → up weight name (2 * j + 1 + 1) room ≡ up weight name (2 * (j + 1)) room
later weight name j room = ap (λ n. up weight name n room) (twice j)
  where
    twice : (j : ℕ) → 2 * j + 1 + 1 ≡ 2 * (j + 1)
    twice j = omega arith

tests_total : (value label : ℕ → ℕ) (new : Numbers) (type_of : ℕ → PlainType) (index j : ℕ) (numbers : List ℤ) (cases : List Single) (default : ℕ) (more : List Piece)
    → pieces_total value label (tests new type_of index j numbers cases default more)
    ≤ up value new.value (2 * j) (double (length numbers)) + up label new.label (j + 1) (double (length numbers)) + pieces_total value label more
tests_total value label new type_of index j [] cases default more = omega arith
tests_total value label new type_of index j (n ∷ []) [] default more = omega arith
tests_total value label new type_of index j (n ∷ []) (c ∷ []) default more = omega arith
tests_total value label new type_of index j (n ∷ []) (c ∷ d ∷ cases) default more = omega arith
tests_total value label new type_of index j (n ∷ m ∷ numbers) [] default more = omega arith
tests_total value label new type_of index j (n ∷ m ∷ numbers) (c ∷ cases) default more =
    omega (
      arith,
      tests_total value label new type_of index (j + 1) (m ∷ numbers) cases default more,
      later value new.value j (double (length (m ∷ numbers))),
      up_more label new.label (j + 1 + 1) (double (length (m ∷ numbers))),
    )

tests_held : (r b : ℕ) (new : Numbers) (type_of : ℕ → PlainType) (index j : ℕ) (numbers : List ℤ) (cases : List Single) (default : ℕ) (more : List Piece)
    → held_count r b (tests new type_of index j numbers cases default more) ≡ held_count r b more
tests_held r b new type_of index j [] cases default more = refl
tests_held r b new type_of index j (n ∷ []) [] default more = refl
tests_held r b new type_of index j (n ∷ []) (c ∷ []) default more = refl
tests_held r b new type_of index j (n ∷ []) (c ∷ d ∷ cases) default more = refl
tests_held r b new type_of index j (n ∷ m ∷ numbers) [] default more = refl
tests_held r b new type_of index j (n ∷ m ∷ numbers) (c ∷ cases) default more = tests_held r b new type_of index (j + 1) (m ∷ numbers) cases default more

head_total : (value label : ℕ → ℕ) (new : Numbers) (type_of : ℕ → PlainType) (index : ℕ) (numbers : List ℤ) (cases : List Single) (default : ℕ) (more : List Piece)
    → pieces_total value label (head_pieces new type_of index numbers cases default more)
    ≤ up value new.value 0 (double (length numbers)) + up label new.label 1 (double (length numbers)) + pieces_total value label more
head_total value label new type_of index [] cases default more = omega arith
head_total value label new type_of index (n ∷ numbers) cases default more = tests_total value label new type_of index 0 (n ∷ numbers) cases default more

head_held : (r b : ℕ) (new : Numbers) (type_of : ℕ → PlainType) (index : ℕ) (numbers : List ℤ) (cases : List Single) (default : ℕ) (more : List Piece)
    → held_count r b (head_pieces new type_of index numbers cases default more) ≡ held_count r b more
head_held r b new type_of index [] cases default more = refl
head_held r b new type_of index (n ∷ numbers) cases default more = tests_held r b new type_of index 0 (n ∷ numbers) cases default more

cases_total : (value label : ℕ → ℕ) (type_of : ℕ → PlainType) (rest r : ℕ) (ss : List Single) (more : List Piece)
    → pieces_total value label (case_pieces type_of rest r ss more) ≡ singles_total value label ss + pieces_total value label more
cases_total value label type_of rest r [] more = omega arith
cases_total value label type_of rest r (s ∷ ss) more = omega (arith, cases_total value label type_of rest (r + 1) ss more)

-- how often a block is held from a place on
record HeldFrom (x q : ℕ) (count : List Piece → ℕ) (f : List Piece → List Piece) : Type 0 where
  times : ℕ
  most : times ≤ 1
  low : 1 ≤ times → x ≤ q
  adds : (more : List Piece) → count (f more) ≤ times + count more

cases_held : (q b : ℕ) (type_of : ℕ → PlainType) (rest r : ℕ) (ss : List Single) → HeldFrom r q (held_count q b) (case_pieces type_of rest r ss)
cases_held q b type_of rest r [] = record { times = 0; most = omega arith; low = λ some. absurd (omega (arith, some)); adds = λ more. omega arith }
cases_held q b type_of rest r (s ∷ ss) =
    let here : ℕ = one_if ((r == q) && (0 == b)) in
    let later : HeldFrom (r + 1) q (held_count q b) (case_pieces type_of rest (r + 1) ss) = cases_held q b type_of rest (r + 1) ss in
    record {
      times = here + later.times;
      most = not_both here later.times (at_most_one ((r == q) && (0 == b))) later.most (λ p x. omega (arith, first_same r q 0 b p, later.low x));
      low = one_of here later.times (λ p. omega (arith, first_same r q 0 b p)) (λ x. omega (arith, later.low x));
      adds = λ more. omega (arith, later.adds more);
    }

switch_held : (q b : ℕ) (type_of : ℕ → PlainType) (rest : ℕ) (ss : List Single) (more : List Piece) → held_count q b more ≡ one_if ((0 == q) && (0 == b)) → held_count q b (case_pieces type_of rest 1 ss more) ≤ 1
switch_held q b type_of rest ss more is =
    let all : HeldFrom 1 q (held_count q b) (case_pieces type_of rest 1 ss) = cases_held q b type_of rest 1 ss in
    omega (
      arith,
      all.adds more,
      is,
      not_both (one_if ((0 == q) && (0 == b))) all.times (at_most_one ((0 == q) && (0 == b))) all.most (λ p x. omega (arith, first_same 0 q 0 b p, all.low x)),
    )

abbrev opens_rest : Numbers → Values → List Piece
opens_rest new results = Opens (new.label 0) results ∷ []

abbrev switch_default : Numbers → (ℕ → PlainType) → Values → Single → List Piece
switch_default new type_of results default = yields_to type_of (new.label 0) 0 default (opens_rest new results)

abbrev switch_behind : Numbers → (ℕ → PlainType) → Values → Single → List Single → List Piece
switch_behind new type_of results default cases = case_pieces type_of (new.label 0) 1 cases (switch_default new type_of results default)

behind_none : (n : ℕ) → n + 0 ≡ n
behind_none n = omega arith

switch_is : (new : Numbers) (type_of : ℕ → PlainType) (k : Kind) (results : Values) (index : ℕ) (regions : Regions) (numbers : List ℤ) (default : Single) (cases : List Single) (b : Bool) → SinglesAre regions (Some (default ∷ cases))
    → CutIs new (op k results (index ∷ []) regions []) (if b then Some (switch_pieces new type_of results index numbers default cases) else None)
switch_is new type_of k results index regions numbers default cases false are = tt
switch_is new type_of k results index regions numbers default cases true are =
    once_by new (op k results (index ∷ []) regions []) _ (suc (double (length numbers)))
    (λ value label.
    omega (
      arith,
      are value label,
      head_total value label new type_of index numbers cases default.label (switch_behind new type_of results default cases),
      cases_total value label type_of (new.label 0) 1 cases (switch_default new type_of results default),
      up_more value new.value 0 (double (length numbers)),
    ))
    (λ r b.
    omega (
      arith,
      head_held r b new type_of index numbers cases default.label (switch_behind new type_of results default cases),
      switch_held r b type_of (new.label 0) cases (switch_default new type_of results default) (behind_none (one_if ((0 == r) && (0 == b)))),
    ))

blocks_are : (new : Numbers) (type_of : ℕ → PlainType) (k : Kind) (results : Values) (index : ℕ) (regions : Regions) (numbers : List ℤ) (x : Option (List Single)) → SinglesAre regions x
    → CutIs new (op k results (index ∷ []) regions []) (switch_blocks new type_of results index numbers x)
blocks_are new type_of k results index regions numbers None are = tt
blocks_are new type_of k results index regions numbers (Some []) are = tt
blocks_are new type_of k results index regions numbers (Some (default ∷ cases)) are = switch_is new type_of k results index regions numbers default cases (length numbers == length cases) are

attr_is : (new : Numbers) (type_of : ℕ → PlainType) (k : Kind) (results : Values) (index : ℕ) (regions : Regions) (a : Option PlainAttr) (x : Option (List Single)) → SinglesAre regions x
    → CutIs new (op k results (index ∷ []) regions []) (switch_cases new type_of results index a x)
attr_is new type_of k results index regions (Some (attr.Numbers width numbers)) x are = blocks_are new type_of k results index regions numbers x are
attr_is new type_of k results index regions _ x are = tt

switch_cut : (new : Numbers) (type_of : ℕ → PlainType) (o : Op) → CutIs new o (switch_row new type_of o)
switch_cut new type_of (op k results (index ∷ []) regions []) = attr_is new type_of k results index regions (entry (codes "cases") k.props) (singles regions) (singles_are regions)
switch_cut new type_of _ = tt

pub switch_once : RowOnce (Cutting switch_row)
switch_once new type_of o ps is = cut_is new o (switch_row new type_of o) ps (switch_cut new type_of o) is

-- scf.execute_region

block_total : (value label : ℕ → ℕ) (type_of : ℕ → PlainType) (rest b l : ℕ) (args : Values) (x : Option (List ℕ)) (more : List Piece)
    → pieces_total value label (held_block type_of rest b l args x more) ≡ label l + (values_total value args + pieces_total value label more)
block_total value label type_of rest b l args None more = refl
block_total value label type_of rest b l args (Some passed) more = omega arith

blocks_total : (value label : ℕ → ℕ) (type_of : ℕ → PlainType) (rest b : ℕ) (bs : Blocks) (more : List Piece)
    → pieces_total value label (held_blocks type_of rest b bs more) ≡ block_heads value label bs + pieces_total value label more
blocks_total value label type_of rest b end_of_blocks more = omega arith
blocks_total value label type_of rest b (block l args ops bs) more =
    omega (arith, block_total value label type_of rest b l args (passed_by ops) (held_blocks type_of rest (b + 1) bs more), blocks_total value label type_of rest (b + 1) bs more)

block_held : (q c : ℕ) (type_of : ℕ → PlainType) (rest b l : ℕ) (args : Values) (x : Option (List ℕ)) (more : List Piece)
    → held_count q c (held_block type_of rest b l args x more) ≡ one_if ((0 == q) && (b == c)) + held_count q c more
block_held q c type_of rest b l args None more = refl
block_held q c type_of rest b l args (Some passed) more = refl

all_held : (q c : ℕ) (type_of : ℕ → PlainType) (rest b : ℕ) (bs : Blocks) → HeldFrom b c (held_count q c) (held_blocks type_of rest b bs)
all_held q c type_of rest b end_of_blocks = record { times = 0; most = omega arith; low = λ some. absurd (omega (arith, some)); adds = λ more. omega arith }
all_held q c type_of rest b (block l args ops bs) =
    let here : ℕ = one_if ((0 == q) && (b == c)) in
    let later : HeldFrom (b + 1) c (held_count q c) (held_blocks type_of rest (b + 1) bs) = all_held q c type_of rest (b + 1) bs in
    record {
      times = here + later.times;
      most = not_both here later.times (at_most_one ((0 == q) && (b == c))) later.most (λ p x. omega (arith, second_same 0 q b c p, later.low x));
      low = one_of here later.times (λ p. omega (arith, second_same 0 q b c p)) (λ x. omega (arith, later.low x));
      adds = λ more. omega (arith, later.adds more, block_held q c type_of rest b l args (passed_by ops) (held_blocks type_of rest (b + 1) bs more));
    }

execute_cut : (new : Numbers) (type_of : ℕ → PlainType) (o : Op) → CutIs new o (execute_row new type_of o)
execute_cut new type_of (op k results [] (region (block l args ops bs) end_of_regions) []) =
    once_by new (op k results [] (region (block l args ops bs) end_of_regions) []) _ 1
    (λ value label. omega (arith, blocks_total value label type_of (new.label 0) 0 (block l args ops bs) (opens_rest new results)))
    (λ q c.
    let all : HeldFrom 0 c (held_count q c) (held_blocks type_of (new.label 0) 0 (block l args ops bs)) = all_held q c type_of (new.label 0) 0 (block l args ops bs) in
    omega (arith, all.adds (opens_rest new results), all.most))
execute_cut new type_of _ = tt

pub execute_once : RowOnce (Cutting execute_row)
execute_once new type_of o ps is = cut_is new o (execute_row new type_of o) ps (execute_cut new type_of o) is
