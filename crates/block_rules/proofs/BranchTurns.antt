-- Where branches are converted, what stands for each operation of a verified function: itself, or for a branch casts and a
-- branch in converted types.
use Rattle.std.proofs.Common.{◌≡◌, ℕ, Bool, true, false, List, [], ◌∷◌, Option, Some, None, refl, sym, ap, ◌∙◌, subst, map, true≢false}
use Rattle.std.specs.Prelude.{codes, drop, ◌||◌, not, if◌then◌else◌}
use Rattle.std.specs.List.{list_all}
use Rattle.std.specs.Str.{bytes_eq}
use Rattle.std.proofs.lemmas.Slice.Eq.{bytes_eq-Decides}
use Rattle.plain_tree.specs.Types.{PlainType}
use Rattle.plain_tree.specs.ValueTypes.{is_own}
use Rattle.plain_tree.specs.Attrs.{Entries, PlainAttr, entry}
use Rattle.plain_tree.specs.Ops.{Kind, Op, op, Ops, Regions, end_of_regions, Blocks, Values}
use Rattle.rule_model.specs.declared.rules.Rule.TheVariants as rule
use Rattle.rule_model.specs.declared.shapes.Shape.{Shape as Form}
use Rattle.rule_model.specs.declared.shapes.Shape.TheVariants.{Branch, BranchOn}
use Rattle.rule_model.specs.Words.{has, name_of, types}
use Rattle.rule_model.specs.Rows.{Row, rows, shape_in, shape_of}
use Rattle.rule_model.specs.Facts.{Facts, facts_of, Functions, Holder, target}
use Rattle.rule_model.specs.Types.{no_types, results_fit}
use Rattle.rule_model.specs.Parts.{attributes_fit, has_form, needs, regions_fit}
use Rattle.rule_model.specs.Forms.{is_some_of, segments, two_counts}
use Rattle.rule_model.specs.Control.{one_successor, successors_fit, two_successors}
use Rattle.rule_model.specs.Rules.{if_registered}
use Rattle.rule_model.specs.Formed.{are_formed_entries, are_formed_values, is_formed_here, is_formed_op, is_inner_name}
use Rattle.rule_model.proofs.Numbers.{and_first, and_second, has_of, itself}
use Rattle.conversion_model.specs.Templates.{labels_at, Template}
use Rattle.conversion_model.specs.Targets.{demanded, Dynamic, Illegal, is_illegal_at, is_legal, Legal, operands_of, Partial, Shape, shape_of as of_shape, TypesOwn, Unknown}
use Rattle.conversion_model.specs.Chosen.{chosen}
use Rattle.conversion_model.specs.Items.{Ways}
use Rattle.conversion_model.specs.Conversion.{choice_in, line_by, Pass, Supply, ways}
use Rattle.pattern_model.specs.CfRows.{cf_set}
use Rattle.pattern_model.specs.OperationNames.{cf_names, is_among, is_known, llvm_branches}
use Rattle.pattern_model.specs.PassTable.{partial_pass}
use Rattle.block_rules.specs.Branches.{branch, converted_operands, fronts, branch_shape, cf_target}
use Rattle.line_rules.specs.Lines.{Put, put_itself, put_turn}
use Rattle.line_rules.specs.Kept.{KeepsAll, KeptOp}
use Rattle.block_rules.proofs.BranchChoice.{BecomeOwn, cf_br_chosen, cf_on_chosen, llvm_br_chosen, llvm_on_chosen, turned}
use Rattle.block_rules.proofs.BranchTemplates.{branch_written, kept_successors}
use Rattle.fitting_rows.proofs.FitArith.{one_entry}
use Rattle.fitting_rows.proofs.FitShapes.{becomes_own, Width}
use Rattle.line_rules.proofs.LinedFormed.{operands_defined}
use Rattle.fitting_rows.proofs.SourceFits.{among_of, bare_of, GoodType}
use Rattle.fitting_rows.proofs.Uncut.{AllStraight, choice_uncut, if_uncut}
use Rattle.line_rules.proofs.Words.{or_right}

-- The four names

abbrev four : List (List ℕ)
four = codes "cf.br" ∷ codes "cf.cond_br" ∷ codes "llvm.br" ∷ codes "llvm.cond_br" ∷ []

abbrev pub is_branch_form : Option Form → Bool
is_branch_form (Some Branch) = true
is_branch_form (Some BranchOn) = true
is_branch_form _ = false

abbrev is_one_way : Option Form → Bool
is_one_way (Some Branch) = true
is_one_way _ = false

abbrev row_test : Row → Bool
row_test r = not (is_branch_form (Some r.1)) || is_among four r.0

-- an operation with the shape of a branch has one of the names
among_rows : (rs : List Row) (name : List ℕ) → list_all row_test rs ≡ true → is_branch_form (shape_in name rs) ≡ true → is_among four name ≡ true
among_rows [] name all e = absurd (true≢false (sym e))
among_rows (r ∷ rs) name all e = go (bytes_eq r.0 name) refl e (among_rows rs name (and_second (row_test r) _ all))
  where
    tested : (x : Bool) → x ≡ true → (not x || is_among four r.0) ≡ true → is_among four r.0 ≡ true
    tested true e f = f
    tested false e f = absurd (true≢false (sym e))

    go : (b : Bool) → bytes_eq r.0 name ≡ b → is_branch_form (if b then Some r.1 else shape_in name rs) ≡ true → (is_branch_form (shape_in name rs) ≡ true → is_among four name ≡ true) → is_among four name ≡ true
    go true same f rest = subst (λ n. is_among four n ≡ true) ((bytes_eq-Decides r.0 name).0 same) (tested (is_branch_form (Some r.1)) f (and_first (row_test r) _ all))
    go false other f rest = rest f

among_four : (name : List ℕ) → is_branch_form (shape_of name) ≡ true → is_among four name ≡ true
among_four name e = among_rows rows name refl e

-- an operation that is demanded too
demanded_among : (o : Shape) → is_illegal_at o (cf_target o.name) ≡ true → is_among four o.name ≡ true
demanded_among o e = go (is_among cf_names o.name) refl (is_among llvm_branches o.name) refl e
  where
    first_two : (a b c : Bool) → (a || (b || false)) ≡ true → (a || (b || c)) ≡ true
    first_two true b c f = refl
    first_two false true c f = refl
    first_two false false c f = absurd (true≢false (sym f))

    known : (b : Bool) → is_illegal_at o (if b then Legal else Unknown) ≡ true → is_among four o.name ≡ true
    known true f = absurd (true≢false (sym f))
    known false f = absurd (true≢false (sym f))

    go : (a : Bool) → is_among cf_names o.name ≡ a → (b : Bool) → is_among llvm_branches o.name ≡ b → is_illegal_at o (if a then Illegal else if b then Dynamic TypesOwn else if is_known o.name then Legal else Unknown) ≡ true
        → is_among four o.name ≡ true
    go true is b other f = first_two (bytes_eq (codes "cf.br") o.name) (bytes_eq (codes "cf.cond_br") o.name) _ is
    go false is true other f = or_right (bytes_eq (codes "cf.br") o.name) _ (or_right (bytes_eq (codes "cf.cond_br") o.name) _ other)
    go false is false other f = known (is_known o.name) f

-- What stands for a branch

-- the name and the properties of a branch that stands for one
pub record TurnsTo (k : Kind) (name : List ℕ) (props : Entries) : Type 0 where
  pub inner : is_inner_name name ≡ true
  pub formed : are_formed_entries props ≡ true
  pub same : shape_of name ≡ shape_of k.name
  pub branch_form : is_branch_form (shape_of k.name) ≡ true
  pub sizes : shape_of k.name ≡ Some BranchOn → entry (codes "operandSegmentSizes") props ≡ entry (codes "operandSegmentSizes") k.props

pub data BranchTurns (bits : ℕ) (T : ℕ → PlainType) (new : ℕ → ℕ → ℕ) (at : ℕ → List ℕ) (n : ℕ) : Op → List Op → Op → Type 0 where
  a_turn : (k : Kind) (os ls : List ℕ) (name : List ℕ) (props : Entries) → TurnsTo k name props → at n ≡ os → ((x : ℕ) → has x os ≡ true → GoodType (T x))
      → BranchTurns bits T new at n (op k [] os end_of_regions ls) (fronts bits T (new n) 0 os) (branch name props (converted_operands bits T (new n) 0 os) ls)

-- What the rules say of a branch

no_values : (vs : Values) → no_types (types vs) ≡ true → vs ≡ []
no_values [] e = refl
no_values (v ∷ vs) e = absurd (true≢false (sym e))

record OneLabel (rs : Values) (r : Regions) (ls : List ℕ) : Type 0 where
  no_results : rs ≡ []
  no_region : r ≡ end_of_regions
  label : ℕ
  is : ls ≡ label ∷ []

record TwoLabels (props : Entries) (rs : Values) (r : Regions) (ls : List ℕ) : Type 0 where
  no_results : rs ≡ []
  no_region : r ≡ end_of_regions
  first : ℕ
  second : ℕ
  is : ls ≡ first ∷ second ∷ []
  attr : PlainAttr
  entry_is : entry (codes "operandSegmentSizes") props ≡ Some attr

one_branch : (c : Functions) (T : ℕ → PlainType) (h : Option Holder) (bs : Blocks) (rest : Ops) (k : Kind) (rs : Values) (os ls : List ℕ) (r : Regions) → shape_of k.name ≡ Some Branch → KeepsAll c (facts_of T h bs rest (op k rs os r ls)) → OneLabel rs r ls
one_branch c T h bs rest k rs os ls r known kept =
    let f : Facts = facts_of T h bs rest (op k rs os r ls) in
    by_labels ls (no_values rs (ap (if_registered (results_fit f)) (sym known) ∙ kept rule.Results)) (bare_of r (ap (if_registered (regions_fit f)) (sym known) ∙ kept rule.Regions)) (ap (successors_fit f) (sym known) ∙ kept rule.Successors)
  where
    by_labels : (ms : List ℕ) → rs ≡ [] → r ≡ end_of_regions → one_successor (map T os) (map (target bs) ms) ≡ true → OneLabel rs r ms
    by_labels [] a b e = absurd (true≢false (sym e))
    by_labels (m ∷ []) a b e = record { no_results = a; no_region = b; label = m; is = refl }
    by_labels (m ∷ n ∷ ms) a b e = absurd (true≢false (sym e))

two_branch : (c : Functions) (T : ℕ → PlainType) (h : Option Holder) (bs : Blocks) (rest : Ops) (k : Kind) (rs : Values) (os ls : List ℕ) (r : Regions) → shape_of k.name ≡ Some BranchOn → KeepsAll c (facts_of T h bs rest (op k rs os r ls))
    → TwoLabels k.props rs r ls
two_branch c T h bs rest k rs os ls r known kept =
    let f : Facts = facts_of T h bs rest (op k rs os r ls) in
    by_labels (no_values rs (ap (if_registered (results_fit f)) (sym known) ∙ kept rule.Results)) (bare_of r (ap (if_registered (regions_fit f)) (sym known) ∙ kept rule.Regions)) ls (segments k.props) (ap (successors_fit f) (sym known) ∙ kept rule.Successors)
    (entry (codes "operandSegmentSizes") k.props) refl (and_first _ _ (and_first _ _ (ap (if_registered (attributes_fit f)) (sym known) ∙ kept rule.Attribute)))
  where
    by_entry : (m n : ℕ) → rs ≡ [] → r ≡ end_of_regions → (x : Option PlainAttr) → entry (codes "operandSegmentSizes") k.props ≡ x
        → has_form (facts_of T h bs rest (op k rs os r ls)) (needs (codes "operandSegmentSizes") (λ a. is_some_of (two_counts a))) x ≡ true → TwoLabels k.props rs r (m ∷ n ∷ [])
    by_entry m n a b None e g = absurd (true≢false (sym g))
    by_entry m n a b (Some attr) e g = record { no_results = a; no_region = b; first = m; second = n; is = refl; attr = attr; entry_is = e }

    by_labels : rs ≡ [] → r ≡ end_of_regions → (ms : List ℕ) (counts : Option (ℕ × ℕ)) → two_successors counts (drop 1 (map T os)) (map (target bs) ms) ≡ true → (x : Option PlainAttr) → entry (codes "operandSegmentSizes") k.props ≡ x
        → has_form (facts_of T h bs rest (op k rs os r ls)) (needs (codes "operandSegmentSizes") (λ a. is_some_of (two_counts a))) x ≡ true → TwoLabels k.props rs r ms
    by_labels a b [] None e x f g = absurd (true≢false (sym e))
    by_labels a b [] (Some p) e x f g = absurd (true≢false (sym e))
    by_labels a b (m ∷ []) None e x f g = absurd (true≢false (sym e))
    by_labels a b (m ∷ []) (Some p) e x f g = absurd (true≢false (sym e))
    by_labels a b (m ∷ n ∷ []) counts e x f g = by_entry m n a b x f g
    by_labels a b (m ∷ n ∷ l ∷ ms) None e x f g = absurd (true≢false (sym e))
    by_labels a b (m ∷ n ∷ l ∷ ms) (Some p) e x f g = absurd (true≢false (sym e))

abbrev pub cf_pass : Bool → Pass
cf_pass blocks = partial_pass cf_set cf_names llvm_branches blocks

cf_straight : (bits : ℕ) → AllStraight bits cf_set
cf_straight bits = (tt, (tt, (tt, (tt, tt))))

module _ (bits : ℕ) (w : Width bits) (new : Supply) (T : ℕ → PlainType) (at : ℕ → List ℕ) (was : List ℕ) (good : (x : ℕ) → has x was ≡ true → GoodType (T x)) where
  -- a branch that stays has operands of own types
  abbrev pub Stays : ℕ → Op → Type 0
  Stays n o = is_branch_form (shape_of (name_of o)) ≡ true → list_all is_own (map T (operands_of o)) ≡ true

  abbrev pub NoLines : ℕ → Op → List Op → Type 0
  NoLines n o l = ⊥

  abbrev pub Turns : ℕ → Op → List Op → Op → Type 0
  Turns n o l t = BranchTurns bits T (λ m. new.value m 0) at n o l t

  abbrev pub way : Ways
  way = ways (cf_pass true) bits new T

  pub uncut : (n : ℕ) (o : Op) → way.cuts n o ≡ None
  uncut n o = if_uncut (demanded Partial cf_target (of_shape T o)) (choice_in (cf_pass true) bits new T n o) (choice_uncut bits cf_target cf_set (new.row n) T o (cf_straight bits))

  become_own : (os : List ℕ) → ((x : ℕ) → has x os ≡ true → GoodType (T x)) → BecomeOwn bits (map T os)
  become_own [] each = tt
  become_own (x ∷ os) each =
      let g = each x (ap (λ b. b || has x os) (itself x)) in
      ((becomes_own bits (T x) w (record { value = g.0; formed = g.1 })).own, become_own os (λ y h. each y (or_right _ _ h)))

  abbrev Stand : ℕ → Op → Op → List Op → Type 0
  Stand n source kept l = Put Stays NoLines Turns n source kept l

  turn_put : (n : ℕ) (k : Kind) (os ls : List ℕ) (s : Regions) (name : List ℕ) (props : Entries) (succ : List ℕ) → at n ≡ os → ((x : ℕ) → has x os ≡ true → GoodType (T x)) → labels_at ls (kept_successors succ) ≡ ls → TurnsTo k name props
      → (x : Option Template) → x ≡ Some (turned bits (map T os) name props succ) → Stand n (op k [] os end_of_regions ls) (op k [] os s ls) (line_by (new.value n 0) (op k [] os s ls) x)
  turn_put n k os ls s name props succ is each labels turns x e =
      subst (λ y. Stand n (op k [] os end_of_regions ls) (op k [] os s ls) (line_by (new.value n 0) (op k [] os s ls) y)) (sym e)
      (subst (Stand n (op k [] os end_of_regions ls) (op k [] os s ls)) (sym (branch_written bits T (new.value n 0) os ls name props succ labels))
      (put_turn (fronts bits T (new.value n 0) 0 os) (branch name props (converted_operands bits T (new.value n 0) 0 os) ls) (a_turn k os ls name props turns is each)))

  -- of an operation of this name
  abbrev Here : ℕ → Regions → Kind → Values → List ℕ → Regions → List ℕ → Type 0
  Here n s k rs os r ls = Stand n (op k rs os r ls) (op k rs os s ls) (way.line (record { number = n; piece = 0; path = [] }) (of_shape T (op k rs os r ls)) (op k rs os s ls))

  one_put : (n : ℕ) (s : Regions) (k : Kind) (rs : Values) (os : List ℕ) (r : Regions) (ls : List ℕ) → OneLabel rs r ls → ((l : ℕ) → Here n s k [] os end_of_regions (l ∷ [])) → Here n s k rs os r ls
  one_put n s k rs os r ls b f =
      subst (λ ms. Here n s k rs os r ms) (sym b.is) (subst (λ q. Here n s k rs os q (b.label ∷ [])) (sym b.no_region) (subst (λ vs. Here n s k vs os end_of_regions (b.label ∷ [])) (sym b.no_results) (f b.label)))

  two_put : (n : ℕ) (s : Regions) (k : Kind) (rs : Values) (os : List ℕ) (r : Regions) (ls : List ℕ) → TwoLabels k.props rs r ls
      → ((l m : ℕ) (a : PlainAttr) → entry (codes "operandSegmentSizes") k.props ≡ Some a → Here n s k [] os end_of_regions (l ∷ m ∷ [])) → Here n s k rs os r ls
  two_put n s k rs os r ls b f =
      subst (λ ms. Here n s k rs os r ms) (sym b.is)
      (subst (λ q. Here n s k rs os q (b.first ∷ b.second ∷ [])) (sym b.no_region) (subst (λ vs. Here n s k vs os end_of_regions (b.first ∷ b.second ∷ [])) (sym b.no_results) (f b.first b.second b.attr b.entry_is)))

  abbrev kind : List ℕ → Entries → Entries → Kind
  kind name props attrs = record { name = name; props = props; attrs = attrs }

  br_turns : (name : List ℕ) (props attrs : Entries) → shape_of name ≡ Some Branch → TurnsTo (kind name props attrs) (codes "llvm.br") []
  br_turns name props attrs known = record {
    inner = refl;
    formed = refl;
    same = sym known;
    branch_form = ap is_branch_form known;
    sizes = λ e. absurd (true≢false (ap is_one_way (sym known ∙ e)));
  }

  on_turns : (name : List ℕ) (props attrs : Entries) (a : PlainAttr) → shape_of name ≡ Some BranchOn → are_formed_entries props ≡ true → entry (codes "operandSegmentSizes") props ≡ Some a
      → TurnsTo (kind name props attrs) (codes "llvm.cond_br") ((codes "operandSegmentSizes", a) ∷ [])
  on_turns name props attrs a known formed e = record {
    inner = refl;
    formed = one_entry (codes "operandSegmentSizes") props a formed e;
    same = sym known;
    branch_form = ap is_branch_form known;
    sizes = λ f. sym e;
  }

  -- a branch of llvm stays where all types are own
  by_own : (n : ℕ) (k : Kind) (os ls : List ℕ) (s : Regions) (x : Option Template) (b : Bool) → list_all is_own (map T os) ≡ b → (b ≡ false → Stand n (op k [] os end_of_regions ls) (op k [] os s ls) (line_by (new.value n 0) (op k [] os s ls) x))
      → Stand n (op k [] os end_of_regions ls) (op k [] os s ls) (if not (not b) then op k [] os s ls ∷ [] else if b then op k [] os s ls ∷ [] else line_by (new.value n 0) (op k [] os s ls) x)
  by_own n k os ls s x true e f = put_itself (λ branch. e)
  by_own n k os ls s x false e f = f refl

  props_formed : (labels : List ℕ) (k : Kind) (rs : Values) (os ls : List ℕ) (r : Regions) → is_formed_op was labels (op k rs os r ls) ≡ true → are_formed_entries k.props ≡ true
  props_formed labels k rs os ls r e =
      let own = and_first (is_formed_here was labels k rs os ls) _ (and_second (is_inner_name k.name) _ e) in
      let behind = and_second (list_all (λ l. has l labels) ls) _ (and_second (list_all (λ v. has v was) os) _ own) in
      and_first (are_formed_entries k.props) _ (and_second (are_formed_values rs) _ behind)

  pub put_here : (c : Functions) (h : Option Holder) (bs : Blocks) (rest : Ops) (labels : List ℕ) (n : ℕ) (k : Kind) (rs : Values) (os ls : List ℕ) (r s : Regions) → at n ≡ os → KeptOp c T h bs rest (op k rs os r ls) → is_formed_op was labels (op k rs os r ls) ≡ true
      → Here n s k rs os r ls
  put_here c h bs rest labels n k rs os ls r s is kept formed = go (is_among four k.name) refl
    where
      each : (x : ℕ) → has x os ≡ true → GoodType (T x)
      each x a = good x (has_of (λ y. has y was ≡ true) x os (operands_defined was labels (op k rs os r ls) formed) a)

      Named : List ℕ → Type 0
      Named name = (props attrs : Entries) → KeepsAll c (facts_of T h bs rest (op (kind name props attrs) rs os r ls)) → are_formed_entries props ≡ true → Here n s (kind name props attrs) rs os r ls

      cf_br : (props attrs : Entries) → KeepsAll c (facts_of T h bs rest (op (kind (codes "cf.br") props attrs) rs os r ls)) → are_formed_entries props ≡ true → Here n s (kind (codes "cf.br") props attrs) rs os r ls
      cf_br props attrs keeps f =
          let k2 : Kind = kind (codes "cf.br") props attrs in
          one_put n s k2 rs os r ls (one_branch c T h bs rest k2 rs os ls r refl keeps) (λ l.
          turn_put n k2 os (l ∷ []) s (codes "llvm.br") [] (0 ∷ []) is each refl (br_turns (codes "cf.br") props attrs refl) (chosen bits cf_target cf_set [] (branch_shape (codes "cf.br") (map T os) props attrs 1))
          (cf_br_chosen bits (map T os) props attrs (become_own os each)))

      cf_on : (props attrs : Entries) → KeepsAll c (facts_of T h bs rest (op (kind (codes "cf.cond_br") props attrs) rs os r ls)) → are_formed_entries props ≡ true → Here n s (kind (codes "cf.cond_br") props attrs) rs os r ls
      cf_on props attrs keeps f =
          let k2 : Kind = kind (codes "cf.cond_br") props attrs in
          two_put n s k2 rs os r ls (two_branch c T h bs rest k2 rs os ls r refl keeps) (λ l m a e.
          turn_put n k2 os (l ∷ m ∷ []) s (codes "llvm.cond_br") ((codes "operandSegmentSizes", a) ∷ []) (0 ∷ 1 ∷ []) is each refl (on_turns (codes "cf.cond_br") props attrs a refl f e)
          (chosen bits cf_target cf_set [] (branch_shape (codes "cf.cond_br") (map T os) props attrs 2)) (cf_on_chosen bits (map T os) props attrs a e (become_own os each)))

      llvm_br : (props attrs : Entries) → KeepsAll c (facts_of T h bs rest (op (kind (codes "llvm.br") props attrs) rs os r ls)) → are_formed_entries props ≡ true → Here n s (kind (codes "llvm.br") props attrs) rs os r ls
      llvm_br props attrs keeps f =
          let k2 : Kind = kind (codes "llvm.br") props attrs in
          one_put n s k2 rs os r ls (one_branch c T h bs rest k2 rs os ls r refl keeps) (λ l.
          let x : Option Template = chosen bits cf_target cf_set [] (branch_shape (codes "llvm.br") (map T os) props attrs 1) in
          by_own n k2 os (l ∷ []) s x (list_all is_own (map T os)) refl (λ other.
          turn_put n k2 os (l ∷ []) s (codes "llvm.br") [] (0 ∷ []) is each refl (br_turns (codes "llvm.br") props attrs refl) x (llvm_br_chosen bits (map T os) props attrs other (become_own os each))))

      llvm_on : (props attrs : Entries) → KeepsAll c (facts_of T h bs rest (op (kind (codes "llvm.cond_br") props attrs) rs os r ls)) → are_formed_entries props ≡ true → Here n s (kind (codes "llvm.cond_br") props attrs) rs os r ls
      llvm_on props attrs keeps f =
          let k2 : Kind = kind (codes "llvm.cond_br") props attrs in
          two_put n s k2 rs os r ls (two_branch c T h bs rest k2 rs os ls r refl keeps) (λ l m a e.
          let x : Option Template = chosen bits cf_target cf_set [] (branch_shape (codes "llvm.cond_br") (map T os) props attrs 2) in
          by_own n k2 os (l ∷ m ∷ []) s x (list_all is_own (map T os)) refl (λ other.
          turn_put n k2 os (l ∷ m ∷ []) s (codes "llvm.cond_br") ((codes "operandSegmentSizes", a) ∷ []) (0 ∷ 1 ∷ []) is each refl (on_turns (codes "llvm.cond_br") props attrs a refl f e) x
          (llvm_on_chosen bits (map T os) props attrs a e other (become_own os each))))

      by_demand : (d : Bool) → is_illegal_at (of_shape T (op k rs os r ls)) (cf_target k.name) ≡ d → is_among four k.name ≡ false
          → Stand n (op k rs os r ls) (op k rs os s ls)
          (if not d then op k rs os s ls ∷ [] else if is_legal cf_target (of_shape T (op k rs os r ls)) then op k rs os s ls ∷ [] else line_by (new.value n 0) (op k rs os s ls) (chosen bits cf_target cf_set [] (of_shape T (op k rs os r ls))))
      by_demand false f none = put_itself (λ b. absurd (true≢false (sym (among_four k.name b) ∙ none)))
      by_demand true f none = absurd (true≢false (sym (demanded_among (of_shape T (op k rs os r ls)) f) ∙ none))

      go : (b : Bool) → is_among four k.name ≡ b → Here n s k rs os r ls
      go true e = among_of Named four k.name (cf_br, (cf_on, (llvm_br, (llvm_on, tt)))) e k.props k.attrs kept.0 (props_formed labels k rs os ls r formed)
      go false e = by_demand (is_illegal_at (of_shape T (op k rs os r ls)) (cf_target k.name)) refl e
