-- The rows of scf look at numbers only as at names.
use Rattle.std.proofs.Common.{◌≡◌, ℕ, suc, ◌+◌, ◌*◌, ◌==◌, Bool, true, false, List, [], ◌∷◌, Option, Some, None, refl, ap, ◌∙◌, subst, length, map}
use Rattle.std.specs.Prelude.{ℤ, pos, codes, if◌then◌else◌}
use Rattle.plain_tree.specs.Types.{PlainType, Int, Index}
use Rattle.plain_tree.specs.Attrs.{Entries, PlainAttr, entry}
use Rattle.plain_tree.specs.Attrs as attr
use Rattle.plain_tree.specs.Ops.{op, Ops, more_ops, Regions, end_of_regions, Blocks, Values}
use Rattle.conversion_model.specs.Targets.{name_of, operands_of, goes_with_holder}
use Rattle.conversion_model.specs.Rows.{Cutting, Numbers, Piece, Product}
use Rattle.conversion_model.specs.Renamings.{RenAll, none_all, more_all, RenValues, none_values, more_values, ren_op, RenOps, ops_ended, ren_more, RenRegions, regions_ended, ren_region, RenBlocks, blocks_ended, ren_block, RenPieces, pieces_ended, ren_product, ren_opens, ren_held, ren_stands, RenCut, no_cut, ren_cut, RenNumbers, RowRenames, OneToOne, TypesAgree}
use Rattle.conversion_model.proofs.RenamedTypes.{all_length, name_same, operand_types, operands_ren}
use Rattle.pattern_model.specs.Drafts.{constant_value, predicate, sizes}
use Rattle.pattern_model.specs.ScfRows.{Single, branch, case_pieces, conditional, execute_row, for_of, for_row, head_pieces, held_block, held_blocks, if_alone, if_of, if_row, or_none, passed_by, product, single, singles, stand_for, switch_blocks, switch_cases, switch_pieces, switch_row, test_pieces, tests, while_of, while_passed, while_row, with_single, with_type, yields_to}

-- Products

made : {R L : ℕ → ℕ → Type 0} {vs ws : Values} {os ps ls ms : List ℕ} {xs ys : List Piece} (s t : ℕ → PlainType) (name : List ℕ) (props : Entries)
    → TypesAgree R s t → RenValues R vs ws → RenAll R os ps → RenAll L ls ms → RenPieces R L xs ys → RenPieces R L (product s name vs os props ls ∷ xs) (product t name ws ps props ms ∷ ys)
made {R = R} {L = L} {vs = vs} {ws = ws} {os = os} {ps = ps} {ls = ls} {ms = ms} {xs = xs} {ys = ys} s t name props agree values operands labels more =
    subst (λ types. RenPieces R L (product s name vs os props ls ∷ xs) (Product (op (record { name = name; props = props; attrs = [] }) ws ps end_of_regions ms) types ∷ ys)) (operand_types s t agree operands)
    (ren_product (ren_op values operands regions_ended labels) more)

branch_ren : {R L : ℕ → ℕ → Type 0} {os ps : List ℕ} {l m : ℕ} {xs ys : List Piece} (s t : ℕ → PlainType) → TypesAgree R s t → RenAll R os ps → L l m → RenPieces R L xs ys → RenPieces R L (branch s os l ∷ xs) (branch t ps m ∷ ys)
branch_ren s t agree operands label more = made s t (codes "cf.br") [] agree none_values operands (more_all label none_all) more

conditional_ren : {R L : ℕ → ℕ → Type 0} {c d l m i j : ℕ} {os ps : List ℕ} {xs ys : List Piece} (s t : ℕ → PlainType) → TypesAgree R s t → R c d → RenAll R os ps → L l m → L i j → RenPieces R L xs ys
    → RenPieces R L (conditional s c os l i ∷ xs) (conditional t d ps m j ∷ ys)
conditional_ren {R = R} {L = L} {c = c} {d = d} {l = l} {m = m} {i = i} {j = j} {os = os} {ps = ps} {xs = xs} {ys = ys} s t agree test operands label other more =
    subst (λ n. RenPieces R L (conditional s c os l i ∷ xs) (product t (codes "cf.cond_br") [] (d ∷ ps) (sizes (pos 1 ∷ pos n ∷ pos 0 ∷ [])) (m ∷ j ∷ []) ∷ ys)) (all_length operands)
    (made s t (codes "cf.cond_br") (sizes (pos 1 ∷ pos (length os) ∷ pos 0 ∷ [])) agree none_values (more_all test operands) (more_all label (more_all other none_all)) more)

with_type_ren : {R : ℕ → ℕ → Type 0} (m n : ℕ) (u : PlainType) (s t : ℕ → PlainType) → OneToOne R → R m n → TypesAgree R s t → TypesAgree R (with_type m u s) (with_type n u t)
with_type_ren m n u s t one new agree i j r = ap (λ b. if b then u else s i) (one i j m n r new) ∙ ap (λ v. if j == n then u else v) (agree i j r)

-- Regions

pub data RenPassed (R : ℕ → ℕ → Type 0) : Option (List ℕ) → Option (List ℕ) → Type 0 where
  none_passed : RenPassed R None None
  ren_passed : {os ps : List ℕ} → RenAll R os ps → RenPassed R (Some os) (Some ps)

passed_if : {R : ℕ → ℕ → Type 0} {os ps : List ℕ} {x y : Option (List ℕ)} (b : Bool) → RenAll R os ps → RenPassed R x y → RenPassed R (if b then Some os else x) (if b then Some ps else y)
passed_if true here rest = ren_passed here
passed_if false here rest = rest

passed_ren : {R L : ℕ → ℕ → Type 0} {os ps : Ops} → RenOps R L os ps → RenPassed R (passed_by os) (passed_by ps)
passed_ren ops_ended = none_passed
passed_ren {R = R} (ren_more {o = o} {p = p} {os = os} {ps = ps} r rest) =
    subst (λ name. RenPassed R (passed_by (more_ops o os)) (if goes_with_holder name then Some (operands_of p) else passed_by ps)) (name_same r)
    (passed_if (goes_with_holder (name_of o)) (operands_ren r) (passed_ren rest))

or_none_ren : {R : ℕ → ℕ → Type 0} {x y : Option (List ℕ)} → RenPassed R x y → RenAll R (or_none x) (or_none y)
or_none_ren none_passed = none_all
or_none_ren (ren_passed r) = r

pub record RenSingle (R L : ℕ → ℕ → Type 0) (a b : Single) : Type 0 where
  pub label : L a.label b.label
  pub args : RenValues R a.args b.args
  pub passed : RenAll R a.passed b.passed

pub data RenMaybe (R L : ℕ → ℕ → Type 0) : Option Single → Option Single → Type 0 where
  no_single : RenMaybe R L None None
  one_single : {a b : Single} → RenSingle R L a b → RenMaybe R L (Some a) (Some b)

single_ren : {R L : ℕ → ℕ → Type 0} {b c : Blocks} → RenBlocks R L b c → RenMaybe R L (single b) (single c)
single_ren blocks_ended = no_single
single_ren (ren_block l vs os blocks_ended) = one_single (record { label = l; args = vs; passed = or_none_ren (passed_ren os) })
single_ren (ren_block l vs os (ren_block m ws ps rest)) = no_single

pub data RenSingles (R L : ℕ → ℕ → Type 0) : List Single → List Single → Type 0 where
  singles_ended : RenSingles R L [] []
  more_singles : {a b : Single} {xs ys : List Single} → RenSingle R L a b → RenSingles R L xs ys → RenSingles R L (a ∷ xs) (b ∷ ys)

pub data RenAllSingles (R L : ℕ → ℕ → Type 0) : Option (List Single) → Option (List Single) → Type 0 where
  not_single : RenAllSingles R L None None
  all_single : {xs ys : List Single} → RenSingles R L xs ys → RenAllSingles R L (Some xs) (Some ys)

with_single_ren : {R L : ℕ → ℕ → Type 0} {x y : Option Single} {z w : Option (List Single)} → RenMaybe R L x y → RenAllSingles R L z w → RenAllSingles R L (with_single x z) (with_single y w)
with_single_ren no_single other = not_single
with_single_ren (one_single r) not_single = not_single
with_single_ren (one_single r) (all_single rest) = all_single (more_singles r rest)

singles_ren : {R L : ℕ → ℕ → Type 0} {r s : Regions} → RenRegions R L r s → RenAllSingles R L (singles r) (singles s)
singles_ren regions_ended = all_single singles_ended
singles_ren (ren_region b r) = with_single_ren (single_ren b) (singles_ren r)

yields_ren : {R L : ℕ → ℕ → Type 0} {a b : Single} {l m : ℕ} {xs ys : List Piece} (s t : ℕ → PlainType) (r : ℕ) → TypesAgree R s t → L l m → RenSingle R L a b → RenPieces R L xs ys → RenPieces R L (yields_to s l r a xs) (yields_to t m r b ys)
yields_ren s t r agree rest single more = ren_opens single.label single.args (ren_held (branch_ren s t agree single.passed rest more))

-- Rows

if_else_ren : {R L : ℕ → ℕ → Type 0} {vs ws : Values} {c d : ℕ} {x y z w : Option Single} (a b : Numbers) (s t : ℕ → PlainType) → RenNumbers R L a b → TypesAgree R s t → RenValues R vs ws → R c d → RenMaybe R L x y → RenMaybe R L z w
    → RenCut R L (if_of a s vs c x z) (if_of b t ws d y w)
if_else_ren a b s t new agree results test no_single other = no_cut
if_else_ren a b s t new agree results test (one_single first) no_single = no_cut
if_else_ren a b s t new agree results test (one_single first) (one_single other) =
    ren_cut (conditional_ren s t agree test none_all first.label other.label (yields_ren s t 0 agree (new.labels 0) first (yields_ren s t 1 agree (new.labels 0) other (ren_opens (new.labels 0) results pieces_ended))))

if_alone_ren : {R L : ℕ → ℕ → Type 0} {vs ws : Values} {c d : ℕ} {x y : Option Single} (a b : Numbers) (s t : ℕ → PlainType) → RenNumbers R L a b → TypesAgree R s t → RenValues R vs ws → R c d → RenMaybe R L x y
    → RenCut R L (if_alone a s vs c x) (if_alone b t ws d y)
if_alone_ren a b s t new agree results test no_single = no_cut
if_alone_ren a b s t new agree results test (one_single first) =
    ren_cut (conditional_ren s t agree test none_all first.label (new.labels 0) (yields_ren s t 0 agree (new.labels 0) first (ren_opens (new.labels 0) results pieces_ended)))

pub if_renames : RowRenames (Cutting if_row)
if_renames R L a b s t o p one new agree (ren_op results none_all r ls) = no_cut
if_renames R L a b s t o p one new agree (ren_op results (more_all c (more_all d os)) r ls) = no_cut
if_renames R L a b s t o p one new agree (ren_op results (more_all c none_all) regions_ended ls) = no_cut
if_renames R L a b s t o p one new agree (ren_op results (more_all c none_all) (ren_region first regions_ended) ls) = no_cut
if_renames R L a b s t o p one new agree (ren_op results (more_all c none_all) (ren_region first (ren_region blocks_ended regions_ended)) none_all) = if_alone_ren a b s t new agree results c (single_ren first)
if_renames R L a b s t o p one new agree (ren_op results (more_all c none_all) (ren_region first (ren_region blocks_ended regions_ended)) (more_all l ls)) = no_cut
if_renames R L a b s t o p one new agree (ren_op results (more_all c none_all) (ren_region first (ren_region (ren_block l vs os rest) regions_ended)) none_all) =
    if_else_ren a b s t new agree results c (single_ren first) (single_ren (ren_block l vs os rest))
if_renames R L a b s t o p one new agree (ren_op results (more_all c none_all) (ren_region first (ren_region (ren_block l vs os rest) regions_ended)) (more_all m ls)) = no_cut
if_renames R L a b s t o p one new agree (ren_op results (more_all c none_all) (ren_region first (ren_region blocks_ended (ren_region third r))) ls) = no_cut
if_renames R L a b s t o p one new agree (ren_op results (more_all c none_all) (ren_region first (ren_region (ren_block l vs os rest) (ren_region third r))) ls) = no_cut

stand_ren : {R L : ℕ → ℕ → Type 0} {vs ws : Values} {os ps : List ℕ} → RenValues R vs ws → RenAll R os ps → RenPieces R L (stand_for vs os) (stand_for ws ps)
stand_ren none_values none_all = pieces_ended
stand_ren none_values (more_all r rest) = pieces_ended
stand_ren (more_values v vs) none_all = pieces_ended
stand_ren (more_values v vs) (more_all r rest) = ren_stands v r (stand_ren vs rest)

argument_numbers : {R : ℕ → ℕ → Type 0} {vs ws : Values} → RenValues R vs ws → RenAll R (map (λ (v : ℕ × PlainType). v.0) vs) (map (λ (v : ℕ × PlainType). v.0) ws)
argument_numbers none_values = none_all
argument_numbers (more_values r rest) = more_all r (argument_numbers rest)

for_of_ren : {R L : ℕ → ℕ → Type 0} {vs ws xs ys : Values} {l l' u u' i i' m n : ℕ} {is js os ps : List ℕ} (a b : Numbers) (s t : ℕ → PlainType) → OneToOne R → RenNumbers R L a b → TypesAgree R s t
    → RenValues R vs ws → R l l' → R u u' → R i i' → RenAll R is js → L m n → RenValues R xs ys → RenAll R os ps → RenCut R L (for_of a s vs l u i is m xs os) (for_of b t ws l' u' i' js n ys ps)
for_of_ren a b s t one new agree results lower upper step initial body none_values passed = no_cut
for_of_ren {R = R} a b s t one new agree results lower upper step initial body (more_values {t = v} iv accs) passed =
    let types = with_type_ren (a.value 0) (b.value 0) (Int 1) (with_type (a.value 1) v s) (with_type (b.value 1) v t) one (new.values 0) (with_type_ren (a.value 1) (b.value 1) v s t one (new.values 1) agree) in
    ren_cut (branch_ren _ _ types (more_all lower initial) (new.labels 0)
    (ren_opens (new.labels 0) (more_values iv accs)
    (made _ _ (codes "arith.cmpi") (predicate 2) types (more_values (new.values 0) none_values) (more_all iv (more_all upper none_all)) none_all
    (conditional_ren _ _ types (new.values 0) none_all body (new.labels 1)
    (ren_opens body none_values
    (ren_held
    (made _ _ (codes "arith.addi") [] types (more_values (new.values 1) none_values) (more_all iv (more_all step none_all)) none_all
    (branch_ren _ _ types (more_all (new.values 1) passed) (new.labels 0)
    (ren_opens (new.labels 1) none_values (stand_ren results (argument_numbers accs)))))))))))

pub for_renames : RowRenames (Cutting for_row)
for_renames R L a b s t o p one new agree (ren_op results none_all r ls) = no_cut
for_renames R L a b s t o p one new agree (ren_op results (more_all l none_all) r ls) = no_cut
for_renames R L a b s t o p one new agree (ren_op results (more_all l (more_all u none_all)) r ls) = no_cut
for_renames R L a b s t o p one new agree (ren_op results (more_all l (more_all u (more_all i is))) regions_ended ls) = no_cut
for_renames R L a b s t o p one new agree (ren_op results (more_all l (more_all u (more_all i is))) (ren_region blocks_ended r) ls) = no_cut
for_renames R L a b s t o p one new agree (ren_op results (more_all l (more_all u (more_all i is))) (ren_region (ren_block m vs os blocks_ended) regions_ended) none_all) =
    for_of_ren a b s t one new agree results l u i is m vs (or_none_ren (passed_ren os))
for_renames R L a b s t o p one new agree (ren_op results (more_all l (more_all u (more_all i is))) (ren_region (ren_block m vs os blocks_ended) regions_ended) (more_all n ls)) = no_cut
for_renames R L a b s t o p one new agree (ren_op results (more_all l (more_all u (more_all i is))) (ren_region (ren_block m vs os blocks_ended) (ren_region c r)) ls) = no_cut
for_renames R L a b s t o p one new agree (ren_op results (more_all l (more_all u (more_all i is))) (ren_region (ren_block m vs os (ren_block n ws ps rest)) r) ls) = no_cut

while_passed_ren : {R L : ℕ → ℕ → Type 0} {vs ws : Values} {is js os ps : List ℕ} {x x' y y' : Single} (a b : Numbers) (s t : ℕ → PlainType) → RenNumbers R L a b → TypesAgree R s t
    → RenValues R vs ws → RenAll R is js → RenSingle R L x x' → RenAll R os ps → RenSingle R L y y' → RenCut R L (while_passed a s vs is x os y) (while_passed b t ws js x' ps y')
while_passed_ren a b s t new agree results initial before none_all behind = no_cut
while_passed_ren a b s t new agree results initial before (more_all c values) behind =
    ren_cut (branch_ren s t agree initial before.label
    (ren_opens before.label before.args
    (ren_held
    (conditional_ren s t agree c values behind.label (new.labels 0)
    (ren_opens behind.label behind.args
    (ren_held
    (branch_ren s t agree behind.passed before.label
    (ren_opens (new.labels 0) none_values (stand_ren results values)))))))))

while_of_ren : {R L : ℕ → ℕ → Type 0} {vs ws : Values} {is js : List ℕ} {x x' y y' : Option Single} (a b : Numbers) (s t : ℕ → PlainType) → RenNumbers R L a b → TypesAgree R s t
    → RenValues R vs ws → RenAll R is js → RenMaybe R L x x' → RenMaybe R L y y' → RenCut R L (while_of a s vs is x y) (while_of b t ws js x' y')
while_of_ren a b s t new agree results initial no_single behind = no_cut
while_of_ren a b s t new agree results initial (one_single before) no_single = no_cut
while_of_ren a b s t new agree results initial (one_single before) (one_single behind) = while_passed_ren a b s t new agree results initial before before.passed behind

pub while_renames : RowRenames (Cutting while_row)
while_renames R L a b s t o p one new agree (ren_op results os regions_ended ls) = no_cut
while_renames R L a b s t o p one new agree (ren_op results os (ren_region x regions_ended) ls) = no_cut
while_renames R L a b s t o p one new agree (ren_op results os (ren_region x (ren_region y regions_ended)) none_all) = while_of_ren a b s t new agree results os (single_ren x) (single_ren y)
while_renames R L a b s t o p one new agree (ren_op results os (ren_region x (ren_region y regions_ended)) (more_all l ls)) = no_cut
while_renames R L a b s t o p one new agree (ren_op results os (ren_region x (ren_region y (ren_region z r))) ls) = no_cut

test_ren : {R L : ℕ → ℕ → Type 0} {i i' c c' l l' : ℕ} {xs ys : List Piece} (a b : Numbers) (s t : ℕ → PlainType) (j : ℕ) (number : ℤ) → OneToOne R → RenNumbers R L a b → TypesAgree R s t → R i i' → L c c' → L l l' → RenPieces R L xs ys
    → RenPieces R L (test_pieces a s i j number c l xs) (test_pieces b t i' j number c' l' ys)
test_ren a b s t j number one new agree index case other more =
    let k : ℕ = 2 * j in
    let e : ℕ = 2 * j + 1 in
    let types = with_type_ren (a.value k) (b.value k) Index (with_type (a.value e) (Int 1) s) (with_type (b.value e) (Int 1) t) one (new.values k) (with_type_ren (a.value e) (b.value e) (Int 1) s t one (new.values e) agree) in
    made _ _ (codes "arith.constant") (constant_value Index number) types (more_values (new.values k) none_values) none_all none_all
    (made _ _ (codes "arith.cmpi") (predicate 0) types (more_values (new.values e) none_values) (more_all index (more_all (new.values k) none_all)) none_all
    (conditional_ren _ _ types (new.values e) none_all case other more))

tests_ren : {R L : ℕ → ℕ → Type 0} {i i' d d' : ℕ} {cs ds : List Single} {xs ys : List Piece} (a b : Numbers) (s t : ℕ → PlainType) (j : ℕ) (numbers : List ℤ) → OneToOne R → RenNumbers R L a b → TypesAgree R s t → R i i' → RenSingles R L cs ds → L d d' → RenPieces R L xs ys
    → RenPieces R L (tests a s i j numbers cs d xs) (tests b t i' j numbers ds d' ys)
tests_ren a b s t j [] one new agree index cases default more = more
tests_ren a b s t j (n ∷ []) one new agree index singles_ended default more = more
tests_ren a b s t j (n ∷ []) one new agree index (more_singles c singles_ended) default more = test_ren a b s t j n one new agree index c.label default more
tests_ren a b s t j (n ∷ []) one new agree index (more_singles c (more_singles d rest)) default more =
    test_ren a b s t j n one new agree index c.label (new.labels (j + 1)) (ren_opens (new.labels (j + 1)) none_values (tests_ren a b s t (j + 1) [] one new agree index (more_singles d rest) default more))
tests_ren a b s t j (n ∷ m ∷ numbers) one new agree index singles_ended default more = more
tests_ren a b s t j (n ∷ m ∷ numbers) one new agree index (more_singles c rest) default more =
    test_ren a b s t j n one new agree index c.label (new.labels (j + 1)) (ren_opens (new.labels (j + 1)) none_values (tests_ren a b s t (j + 1) (m ∷ numbers) one new agree index rest default more))

cases_ren : {R L : ℕ → ℕ → Type 0} {cs ds : List Single} {xs ys : List Piece} (l m : ℕ) (s t : ℕ → PlainType) (r : ℕ) → TypesAgree R s t → L l m → RenSingles R L cs ds → RenPieces R L xs ys → RenPieces R L (case_pieces s l r cs xs) (case_pieces t m r ds ys)
cases_ren l m s t r agree rest singles_ended more = more
cases_ren l m s t r agree rest (more_singles c cs) more = yields_ren s t r agree rest c (cases_ren l m s t (r + 1) agree rest cs more)

head_ren : {R L : ℕ → ℕ → Type 0} {i i' d d' : ℕ} {cs ds : List Single} {xs ys : List Piece} (a b : Numbers) (s t : ℕ → PlainType) (numbers : List ℤ) → OneToOne R → RenNumbers R L a b → TypesAgree R s t → R i i' → RenSingles R L cs ds → L d d' → RenPieces R L xs ys
    → RenPieces R L (head_pieces a s i numbers cs d xs) (head_pieces b t i' numbers ds d' ys)
head_ren a b s t [] one new agree index cases default more = branch_ren s t agree none_all default more
head_ren a b s t (n ∷ numbers) one new agree index cases default more = tests_ren a b s t 0 (n ∷ numbers) one new agree index cases default more

singles_length : {R L : ℕ → ℕ → Type 0} {cs ds : List Single} → RenSingles R L cs ds → length cs ≡ length ds
singles_length singles_ended = refl
singles_length (more_singles c rest) = ap (λ n. suc n) (singles_length rest)

cut_if : {R L : ℕ → ℕ → Type 0} {xs ys : List Piece} (b : Bool) → RenPieces R L xs ys → RenCut R L (if b then Some xs else None) (if b then Some ys else None)
cut_if true ps = ren_cut ps
cut_if false ps = no_cut

switch_blocks_ren : {R L : ℕ → ℕ → Type 0} {vs ws : Values} {i i' : ℕ} {x y : Option (List Single)} (a b : Numbers) (s t : ℕ → PlainType) (numbers : List ℤ) → OneToOne R → RenNumbers R L a b → TypesAgree R s t → RenValues R vs ws → R i i' → RenAllSingles R L x y
    → RenCut R L (switch_blocks a s vs i numbers x) (switch_blocks b t ws i' numbers y)
switch_blocks_ren a b s t numbers one new agree results index not_single = no_cut
switch_blocks_ren a b s t numbers one new agree results index (all_single singles_ended) = no_cut
switch_blocks_ren {R = R} {L = L} {vs = vs} {ws = ws} {i = i} {i' = i'} a b s t numbers one new agree results index (all_single (more_singles {a = x} {b = y} {xs = cs} {ys = ds} default cases)) =
    subst (λ n. RenCut R L (switch_blocks a s vs i numbers (Some (x ∷ cs))) (if length numbers == n then Some (switch_pieces b t ws i' numbers y ds) else None)) (singles_length cases)
    (cut_if (length numbers == length cs)
    (head_ren a b s t numbers one new agree index cases default.label
    (cases_ren (a.label 0) (b.label 0) s t 1 agree (new.labels 0) cases (yields_ren s t 0 agree (new.labels 0) default (ren_opens (new.labels 0) results pieces_ended)))))

switch_cases_ren : {R L : ℕ → ℕ → Type 0} {vs ws : Values} {i i' : ℕ} {x y : Option (List Single)} (a b : Numbers) (s t : ℕ → PlainType) (cases : Option PlainAttr) → OneToOne R → RenNumbers R L a b → TypesAgree R s t → RenValues R vs ws → R i i' → RenAllSingles R L x y
    → RenCut R L (switch_cases a s vs i cases x) (switch_cases b t ws i' cases y)
switch_cases_ren a b s t None one new agree results index singles = no_cut
switch_cases_ren a b s t (Some (attr.Numbers width numbers)) one new agree results index singles = switch_blocks_ren a b s t numbers one new agree results index singles
switch_cases_ren a b s t (Some attr.Unit) one new agree results index singles = no_cut
switch_cases_ren a b s t (Some (attr.Number n u)) one new agree results index singles = no_cut
switch_cases_ren a b s t (Some (attr.Text bytes)) one new agree results index singles = no_cut
switch_cases_ren a b s t (Some (attr.Attrs attrs)) one new agree results index singles = no_cut
switch_cases_ren a b s t (Some (attr.Dict entries)) one new agree results index singles = no_cut
switch_cases_ren a b s t (Some (attr.OfType u)) one new agree results index singles = no_cut
switch_cases_ren a b s t (Some (attr.Symbol name)) one new agree results index singles = no_cut
switch_cases_ren a b s t (Some (attr.Dialect name words)) one new agree results index singles = no_cut

pub switch_renames : RowRenames (Cutting switch_row)
switch_renames R L a b s t o p one new agree (ren_op results none_all r ls) = no_cut
switch_renames R L a b s t o p one new agree (ren_op results (more_all i (more_all j os)) r ls) = no_cut
switch_renames R L a b s t o p one new agree (ren_op {k = k} results (more_all i none_all) r none_all) = switch_cases_ren a b s t (entry (codes "cases") k.props) one new agree results i (singles_ren r)
switch_renames R L a b s t o p one new agree (ren_op results (more_all i none_all) r (more_all l ls)) = no_cut

held_ren : {R L : ℕ → ℕ → Type 0} {vs ws : Values} {x y : Option (List ℕ)} {xs ys : List Piece} (l l' m m' : ℕ) (s t : ℕ → PlainType) (b : ℕ) → TypesAgree R s t → L l l' → L m m' → RenValues R vs ws → RenPassed R x y → RenPieces R L xs ys
    → RenPieces R L (held_block s l b m vs x xs) (held_block t l' b m' ws y ys)
held_ren l l' m m' s t b agree rest label args none_passed more = ren_opens label args (ren_held more)
held_ren l l' m m' s t b agree rest label args (ren_passed ps) more = ren_opens label args (ren_held (branch_ren s t agree ps rest more))

held_blocks_ren : {R L : ℕ → ℕ → Type 0} {c d : Blocks} {xs ys : List Piece} (l l' : ℕ) (s t : ℕ → PlainType) (b : ℕ) → TypesAgree R s t → L l l' → RenBlocks R L c d → RenPieces R L xs ys → RenPieces R L (held_blocks s l b c xs) (held_blocks t l' b d ys)
held_blocks_ren l l' s t b agree rest blocks_ended more = more
held_blocks_ren l l' s t b agree rest (ren_block {l = i} {m = j} m vs os blocks) more = held_ren l l' i j s t b agree rest m vs (passed_ren os) (held_blocks_ren l l' s t (b + 1) agree rest blocks more)

pub execute_renames : RowRenames (Cutting execute_row)
execute_renames R L a b s t o p one new agree (ren_op results (more_all c os) r ls) = no_cut
execute_renames R L a b s t o p one new agree (ren_op results none_all regions_ended ls) = no_cut
execute_renames R L a b s t o p one new agree (ren_op results none_all (ren_region blocks_ended r) ls) = no_cut
execute_renames R L a b s t o p one new agree (ren_op results none_all (ren_region (ren_block l vs os blocks) regions_ended) none_all) =
    ren_cut (branch_ren s t agree none_all l (held_blocks_ren (a.label 0) (b.label 0) s t 0 agree (new.labels 0) (ren_block l vs os blocks) (ren_opens (new.labels 0) results pieces_ended)))
execute_renames R L a b s t o p one new agree (ren_op results none_all (ren_region (ren_block l vs os blocks) regions_ended) (more_all m ls)) = no_cut
execute_renames R L a b s t o p one new agree (ren_op results none_all (ren_region (ren_block l vs os blocks) (ren_region c r)) ls) = no_cut
