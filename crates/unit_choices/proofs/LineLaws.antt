-- Lines of pieces, and what they say with new numbers.
use Rattle.std.proofs.Common.{◌≡◌, ℕ, suc, ◌+◌, ◌<◌, ◌≤◌, Bool, true, false, ◌&&◌, List, [], ◌∷◌, ◌++◌, append_assoc, drop, get_or, length, map, Option, Some, None, is_some, refl, sym, ap, subst, ◌∙◌, arith}
use Rattle.std.specs.Prelude.{◌==◌, if◌then◌else◌}
use Rattle.std.specs.List.{list_all}
use Rattle.std.proofs.lemmas.List.{drop_more, drop_all}
use Rattle.tree_model.specs.declared.type_tree.TypeTree.{TypeTree}
use Rattle.plain_tree.specs.Types.{PlainType, Void, plain_type}
use Rattle.plain_tree.specs.Attrs.{plain_entries}
use Rattle.plain_tree.specs.Ops.{Op, op, end_of_regions}
use Rattle.conversion_model.specs.declared.templates.TemplateTree.{TemplateTree}
use Rattle.conversion_model.specs.Templates.{Template}
use Rattle.conversion_model.specs.Targets.{Shape, Target, is_legal, shape_with}
use Rattle.conversion_model.specs.Rows.{Numbers, Pattern}
use Rattle.conversion_model.specs.Chosen.{Leaves, by_first, chosen, chosen_within, itself, order}
use Rattle.conversion_model.specs.Choice.{all_legalised}
use Rattle.conversion_model.specs.Conversion.{Pass, Supply, line_by, ways}
use Rattle.choice_code.specs.Plain.{plain_or_none}
use Rattle.cut_code.specs.declared.pieces.CutValue.{CutValue}
use Rattle.cut_code.specs.declared.pieces.CutValue.TheVariants.{Old, New}
use Rattle.cut_code.specs.declared.pieces.PieceTree.{PieceTree}
use Rattle.cut_code.specs.declared.pieces.PieceTree.TheVariants.{Product, Opens, Held, Stands}
use Rattle.cut_code.specs.declared.pieces.ProductTree.{ProductTree}
use Rattle.cut_code.specs.Pieces.{known_types, label_at, pieces_of, value_at}
use Rattle.unit_slots.specs.Slots.{LinesSay, first_line, later_lines}
use Rattle.unit_choices.specs.Lines.{cut_type, found_in, found_of, is_done, line_in, lines_in, own_or_leaves, plain_lines, product_shape, type_known}
use Rattle.unit_choices.specs.Separate.{NotIn, NotOld, Separate}

-- What is found of a product

some_where : (b : Bool) (x y : Option Template) → b ≡ true → is_some x ≡ true → is_some (if b then x else y) ≡ true
some_where b x y e h = ap (λ c. is_some (if c then x else y)) e ∙ h

-- what is legal has leaves
pub legal_some : (bits : ℕ) (target : Target) (table : List Pattern) (path : List ℕ) (o : Shape) → is_legal target o ≡ true → is_some (chosen bits target table path o) ≡ true
legal_some bits target table path o e =
    let n : ℕ = length table in
    let suc_n : suc n ≡ n + 1 = omega arith in
    subst (λ room. is_some (chosen_within bits target (order target table) room path o) ≡ true) suc_n
    (some_where (is_legal target o) (Some (itself o)) (by_first bits (chosen_within bits target (order target table) n) path o (order target table o.name)) e refl)

own_found : (legal some : Bool) (l : Option Template) → legal ≡ true → some ≡ true → Some None ≡ (if some then Some (if legal then None else l) else None)
own_found true true l e h = refl
own_found true false l e h = cc
own_found false some l e h = cc

pub found_own : (bits : ℕ) (target : Target) (table : List Pattern) (path : List ℕ) (o : Shape) → is_legal target o ≡ true → Some None ≡ found_of target (chosen bits target table path) o
found_own bits target table path o e =
    own_found (is_legal target o) (is_some (chosen bits target table path o)) (chosen bits target table path o) e (legal_some bits target table path o e)

some_found : (legal : Bool) (l : Option Template) (t : Template) → legal ≡ false → Some t ≡ l → Some (Some t) ≡ (if is_some l then Some (if legal then None else l) else None)
some_found legal None t e h = cc
some_found true (Some u) t e h = cc
some_found false (Some u) t e h = ap Some h

pub found_leaves : (target : Target) (leaves : Leaves) (o : Shape) (t : Template) → is_legal target o ≡ false → Some t ≡ leaves o → Some (Some t) ≡ found_of target leaves o
found_leaves target leaves o t e h = some_found (is_legal target o) (leaves o) t e h

none_found : (legal : Bool) (l : Option Template) → None ≡ l → None ≡ (if is_some l then Some (if legal then None else l) else None)
none_found legal None h = refl
none_found legal (Some u) h = cc

pub found_none : (target : Target) (leaves : Leaves) (o : Shape) → None ≡ leaves o → None ≡ found_of target leaves o
found_none target leaves o h = none_found (is_legal target o) (leaves o) h

-- Lines one after another

abbrev pub lines_before : List (Option Template) → Option (List (Option Template)) → Option (List (Option Template))
lines_before done None = None
lines_before done (Some ls) = Some (done ++ ls)

one_line : (d b : Bool) (x l : Option Template) (done xs : List (Option Template)) → Some l ≡ (if d then Some x else None)
    → lines_before done (if d && b then Some (x ∷ xs) else None) ≡ lines_before (done ++ l ∷ []) (if b then Some xs else None)
one_line false b x l done xs e = cc
one_line true false x l done xs e = refl
one_line true true x l done xs e =
    let same : x ≡ l = cc in
    ap (λ y. Some (done ++ y ∷ xs)) same ∙ ap Some (sym (append_assoc done (l ∷ []) xs))

no_line : (d b : Bool) (x : Option Template) (xs : List (Option Template)) → None ≡ (if d then Some x else None) → (if d && b then Some (x ∷ xs) else None) ≡ None
no_line false b x xs e = refl
no_line true b x xs e = cc

-- the line of the piece at a place is found
pub line_more : (target : Target) (leaves : Leaves) (type_of : ℕ → PlainType) (ps : List PieceTree) (k : ℕ) (p : PieceTree) (done : List (Option Template)) (l : Option Template) → k < length ps → p ≡ get_or ps k p
    → Some l ≡ found_in target leaves type_of p
    → lines_before done (lines_in target leaves type_of (drop k ps)) ≡ lines_before (done ++ l ∷ []) (lines_in target leaves type_of (drop (k + 1) ps))
line_more target leaves type_of ps k p done l h is e =
    let rest : List PieceTree = drop (k + 1) ps in
    ap (λ qs. lines_before done (lines_in target leaves type_of qs)) (drop_more ps k p h ∙ ap (λ q. q ∷ rest) (sym is))
    ∙ one_line (is_done leaves type_of p) (list_all (is_done leaves type_of) rest) (line_in target leaves type_of p) l done (map (line_in target leaves type_of) rest) e

-- it isn't
pub line_fails : (target : Target) (leaves : Leaves) (type_of : ℕ → PlainType) (ps : List PieceTree) (k : ℕ) (p : PieceTree) (done : List (Option Template)) → k < length ps → p ≡ get_or ps k p
    → None ≡ found_in target leaves type_of p → lines_before done (lines_in target leaves type_of (drop k ps)) ≡ None
line_fails target leaves type_of ps k p done h is e =
    let rest : List PieceTree = drop (k + 1) ps in
    ap (λ qs. lines_before done (lines_in target leaves type_of qs)) (drop_more ps k p h ∙ ap (λ q. q ∷ rest) (sym is))
    ∙ ap (lines_before done) (no_line (is_done leaves type_of p) (list_all (is_done leaves type_of) rest) (line_in target leaves type_of p) (map (line_in target leaves type_of) rest) e)

no_more : (done : List (Option Template)) → done ++ [] ≡ done
no_more [] = refl
no_more (l ∷ ls) = ap (λ ms. l ∷ ms) (no_more ls)

-- nothing is done yet
pub lines_start : (done : List (Option Template)) (o : Option (List (Option Template))) → done ≡ [] → lines_before done o ≡ o
lines_start done None e = refl
lines_start done (Some ls) e = ap (λ ds. Some (ds ++ ls)) e

pub lines_end : (target : Target) (leaves : Leaves) (type_of : ℕ → PlainType) (ps : List PieceTree) (k : ℕ) (done : List (Option Template)) → length ps ≤ k
    → lines_before done (lines_in target leaves type_of (drop k ps)) ≡ Some done
lines_end target leaves type_of ps k done h = ap (λ qs. lines_before done (lines_in target leaves type_of qs)) (drop_all k ps h) ∙ ap Some (no_more done)

-- With new numbers

picked : (b c : Bool) (x y z : PlainType) → b ≡ c → y ≡ z → (if b then x else y) ≡ (if c then x else z)
picked b c x y z e h = ap (λ d. if d then x else y) e ∙ ap (λ w. if c then x else w) h

new_type : (new : Numbers) (type_of : ℕ → PlainType) (known : List (ℕ × TypeTree)) (k : ℕ) → ((i j : ℕ) → (new.value i == new.value j) ≡ (i == j)) → type_of (new.value k) ≡ Void
    → known_types new known type_of (new.value k) ≡ type_known known k
new_type new type_of [] k one void = void
new_type new type_of (v ∷ vs) k one void =
    picked (new.value k == new.value v.0) (k == v.0) (plain_type v.1) (known_types new vs type_of (new.value k)) (type_known vs k) (one k v.0) (new_type new type_of vs k one void)

old_type : (new : Numbers) (type_of : ℕ → PlainType) (known : List (ℕ × TypeTree)) (n : ℕ) → ((k : ℕ) → (n == new.value k) ≡ false)
    → known_types new known type_of n ≡ type_of n
old_type new type_of [] n apart = refl
old_type new type_of (v ∷ vs) n apart =
    ap (λ b. if b then plain_type v.1 else known_types new vs type_of n) (apart v.0) ∙ old_type new type_of vs n apart

types_same : (new : Numbers) (type_of : ℕ → PlainType) (known : List (ℕ × TypeTree)) (vs : List CutValue) → ((i j : ℕ) → (new.value i == new.value j) ≡ (i == j)) → ((k : ℕ) → type_of (new.value k) ≡ Void)
    → ((k : ℕ) → NotOld (new.value k) vs) → map (known_types new known type_of) (map (value_at new) vs) ≡ map (cut_type type_of known) vs
types_same new type_of known [] one void apart = refl
types_same new type_of known (Old n ∷ vs) one void apart =
    ap (λ t. t ∷ map (known_types new known type_of) (map (value_at new) vs)) (old_type new type_of known n (λ k. (apart k).0))
    ∙ ap (λ ts. type_of n ∷ ts) (types_same new type_of known vs one void (λ k. (apart k).1))
types_same new type_of known (New j ∷ vs) one void apart =
    ap (λ t. t ∷ map (known_types new known type_of) (map (value_at new) vs)) (new_type new type_of known j one (void j))
    ∙ ap (λ ts. type_known known j ∷ ts) (types_same new type_of known vs one void apart)

results_same : (new : Numbers) (vs : List (ℕ × TypeTree)) → map (λ (v : ℕ × PlainType). v.1) (map (λ (r : ℕ × TypeTree). (new.value r.0, plain_type r.1)) vs) ≡ map (λ v. plain_type v.1) vs
results_same new [] = refl
results_same new (v ∷ vs) = ap (λ ts. plain_type v.1 ∷ ts) (results_same new vs)

count_same : {A B : Type 0} (f : A → B) (xs : List A) → length (map f xs) ≡ length xs
count_same f [] = refl
count_same f (x ∷ xs) = ap suc (count_same f xs)

-- a product with new numbers
abbrev product_op : Numbers → ProductTree → Op
product_op new p = op (record { name = p.name; props = plain_entries p.props; attrs = [] }) (map (λ r. (new.value r.0, plain_type r.1)) p.results) (map (value_at new) p.operands) end_of_regions (map (label_at new) p.successors)

abbrev product_types : Numbers → (ℕ → PlainType) → ProductTree → List PlainType
product_types new type_of p = map (known_types new p.known type_of) (map (value_at new) p.operands)

shape_same : (new : Numbers) (type_of : ℕ → PlainType) (p : ProductTree) → ((i j : ℕ) → (new.value i == new.value j) ≡ (i == j)) → ((k : ℕ) → type_of (new.value k) ≡ Void)
    → ((k : ℕ) → NotOld (new.value k) p.operands) → shape_with (product_types new type_of p) (product_op new p) ≡ product_shape type_of p
shape_same new type_of p one void apart =
    let parts : List PlainType → List PlainType → ℕ → Shape = λ operands results successors. record {
      name = p.name;
      operands = operands;
      results = results;
      props = plain_entries p.props;
      attrs = [];
      successors = successors;
      regions = 0;
    } in
    ap (λ ts. parts ts (map (λ (v : ℕ × PlainType). v.1) (map (λ (r : ℕ × TypeTree). (new.value r.0, plain_type r.1)) p.results)) (length (map (label_at new) p.successors))) (types_same new type_of p.known p.operands one void apart)
    ∙ ap (λ ts. parts (map (cut_type type_of p.known) p.operands) ts (length (map (label_at new) p.successors))) (results_same new p.results)
    ∙ ap (parts (map (cut_type type_of p.known) p.operands) (map (λ v. plain_type v.1) p.results)) (count_same (label_at new) p.successors)

-- pieces with new numbers are legalised where they are without
pub done_same : (leaves : Leaves) (new : Numbers) (type_of : ℕ → PlainType) (ps : List PieceTree) → ((i j : ℕ) → (new.value i == new.value j) ≡ (i == j)) → ((k : ℕ) → type_of (new.value k) ≡ Void)
    → ((k : ℕ) → NotIn (new.value k) ps) → all_legalised leaves (pieces_of new type_of ps) ≡ list_all (is_done leaves type_of) ps
done_same leaves new type_of [] one void apart = refl
done_same leaves new type_of (Product p ∷ ps) one void apart =
    ap (λ o. is_some (leaves o) && all_legalised leaves (pieces_of new type_of ps)) (shape_same new type_of p one void (λ k. (apart k).0))
    ∙ ap (λ b. is_some (leaves (product_shape type_of p)) && b) (done_same leaves new type_of ps one void (λ k. (apart k).1))
done_same leaves new type_of (Opens label args ∷ ps) one void apart = done_same leaves new type_of ps one void apart
done_same leaves new type_of (Held r b ∷ ps) one void apart = done_same leaves new type_of ps one void apart
done_same leaves new type_of (Stands n t v ∷ ps) one void apart = done_same leaves new type_of ps one void apart

abbrev first_of : List (Option Template) → Option Template
first_of [] = None
first_of (l ∷ ls) = l

abbrev rest_of : List (Option Template) → List (Option Template)
rest_of [] = []
rest_of (l ∷ ls) = ls

first_is : (ls : List (Option TemplateTree)) → first_line ls ≡ first_of (plain_lines ls)
first_is [] = refl
first_is (l ∷ ls) = refl

rest_is : (ls : List (Option TemplateTree)) → plain_lines (later_lines ls) ≡ rest_of (plain_lines ls)
rest_is [] = refl
rest_is (l ∷ ls) = refl

by_line : (legal : Bool) (f : ℕ → ℕ) (o : Op) (x : Option Template) → (if legal then o ∷ [] else line_by f o x) ≡ line_by f o (if legal then None else x)
by_line true f (op k results operands regions successors) x = refl
by_line false f o x = refl

-- each product is written as its line says
pub lines_say : (p : Pass) (bits : ℕ) (new : Supply) (type_of : ℕ → PlainType) (n place k : ℕ) (ps : List PieceTree) (ls : List (Option TemplateTree))
    → ((i j : ℕ) → ((new.row n).value i == (new.row n).value j) ≡ (i == j)) → ((k : ℕ) → type_of ((new.row n).value k) ≡ Void) → ((k : ℕ) → NotIn ((new.row n).value k) ps)
    → plain_lines ls ≡ map (line_in p.target (chosen bits p.target p.table (place ∷ [])) type_of) ps
    → LinesSay (ways p bits new type_of) new n place k (pieces_of (new.row n) type_of ps) ls
lines_say p bits new type_of n place k [] ls one void apart e = tt
lines_say p bits new type_of n place k (Product q ∷ ps) ls one void apart e =
    let o : Op = product_op (new.row n) q in
    let leaves : Leaves = chosen bits p.target p.table (place ∷ []) in (
      by_line (is_legal p.target (shape_with (product_types (new.row n) type_of q) o)) (new.value n k) o (leaves (shape_with (product_types (new.row n) type_of q) o))
          ∙ ap (λ s. line_by (new.value n k) o (own_or_leaves p.target leaves s)) (shape_same (new.row n) type_of q one void (λ k. (apart k).0))
          ∙ ap (line_by (new.value n k) o) (sym (first_is ls ∙ ap first_of e)),
      lines_say p bits new type_of n place (k + 1) ps (later_lines ls) one void (λ k. (apart k).1) (rest_is ls ∙ ap rest_of e),
    )
lines_say p bits new type_of n place k (Opens label args ∷ ps) ls one void apart e = lines_say p bits new type_of n place (k + 1) ps (later_lines ls) one void apart (rest_is ls ∙ ap rest_of e)
lines_say p bits new type_of n place k (Held r b ∷ ps) ls one void apart e = lines_say p bits new type_of n place (k + 1) ps (later_lines ls) one void apart (rest_is ls ∙ ap rest_of e)
lines_say p bits new type_of n place k (Stands m t v ∷ ps) ls one void apart e = lines_say p bits new type_of n place (k + 1) ps (later_lines ls) one void apart (rest_is ls ∙ ap rest_of e)

-- no new value is known from there on
pub known_end : (known : List (ℕ × TypeTree)) (place k : ℕ) → length known ≤ k → type_known (drop k known) place ≡ Void
known_end known place k h = ap (λ vs. type_known vs place) (drop_all k known h)
