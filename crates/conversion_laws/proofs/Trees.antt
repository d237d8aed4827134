-- The tree behind a conversion is one in which operations are replaced by lines that keep to them.
use Rattle.std.proofs.Common.{◌≡◌, ◌⊎◌, inl, inr, ℕ, zero, suc, ◌+◌, ◌==◌, Bool, true, false, List, [], ◌∷◌, ◌++◌, Option, Some, None, length, map, refl, sym, ap, ◌∙◌, subst, arith, true≢false}
use Rattle.std.specs.Prelude.{bytes_eq, codes, slice_get, not, ◌||◌, if◌then◌else◌}
use Rattle.std.proofs.lemmas.Bool.{eqb-true}
use Rattle.form_model.specs.Codes as code
use Rattle.plain_tree.specs.Types.{PlainType}
use Rattle.plain_tree.specs.Ops.{Kind, Op, op, Ops, end_of_ops, more_ops, Regions, end_of_regions, region, Blocks, end_of_blocks, block, Values}
use Rattle.conversion_model.specs.declared.templates.Source.{Source}
use Rattle.conversion_model.specs.declared.templates.Source.TheVariants.{Operand, Made}
use Rattle.conversion_model.specs.Types.{new_type}
use Rattle.conversion_model.specs.Templates.{Step, Template, copies, copy, copy_name, labels_at, named, number_of, numbers, steps_written, values_made, written}
use Rattle.conversion_model.specs.Targets.{Shape, demanded, is_legal, shape_of}
use Rattle.conversion_model.specs.Chosen.{chosen}
use Rattle.conversion_model.specs.Items.{op_size, ops_size, blocks_size}
use Rattle.conversion_model.specs.Conversion.{Pass, Supply, cast_back, casts_back, line_by, line_of, new_argument, new_arguments}
use Rattle.rule_model.specs.Words.{has}
use Rattle.sound_model.specs.Runs.{form_at, items_of, root_form, types_made}
use Rattle.sound_model.specs.Soundness.{IsReplaceable, Sound}
use Rattle.chosen_laws.proofs.Derivations.{mapped_count}
use Rattle.chosen_laws.proofs.Lists.{both, none_some, some_same}
use Rattle.code_laws.specs.PlainCodes.{blocks_codes, numbers_in, op_codes, ops_codes, regions_codes, types_in}
use Rattle.sim_laws.proofs.Lines.{Line, in_front}
use Rattle.sim_laws.proofs.Local.{Each, SameBlocks, SameEntry, SameOps, SameRegions, keeps, restores_itself, same_block, same_blocks_end, same_end, same_entry, same_entry_end, same_region, same_regions_end, swaps}
use Rattle.conversion_laws.specs.NewTrees.{args_at, front_at, new_blocks, new_op, new_ops, new_regions, ops_front, source_at}
use Rattle.conversion_laws.proofs.Names.{Distinct, TypesNamed, differ, name_is, not_same, one_name}
use Rattle.conversion_laws.proofs.Written.{MadeTyped, StepsTyped, steps_lines}
use Rattle.conversion_laws.proofs.Quiet.{unstructured}
use Rattle.conversion_laws.proofs.Computed.{Replaced, written_computes}
use Rattle.conversion_laws.proofs.Arguments.{ArgsOld, ArgumentTyped, ArgumentsTyped, args_restored, cast_lines, cast_lines_at}

-- Types of values in a tree

-- each value has the type that t says
abbrev pub ValuesTyped : (ℕ → PlainType) → Values → Type 0
ValuesTyped t [] = Unit {0}
ValuesTyped t (v ∷ vs) = (t v.0 ≡ v.1) × ValuesTyped t vs

abbrev mutual
  pub OpTyped : (ℕ → PlainType) → Op → Type 0
  OpTyped t (op k results operands regions successors) = ValuesTyped t results × RegionsTyped t regions

  pub OpsTyped : (ℕ → PlainType) → Ops → Type 0
  OpsTyped t end_of_ops = Unit {0}
  OpsTyped t (more_ops o os) = OpTyped t o × OpsTyped t os

  pub RegionsTyped : (ℕ → PlainType) → Regions → Type 0
  RegionsTyped t end_of_regions = Unit {0}
  RegionsTyped t (region blocks more) = BlocksTyped t blocks × RegionsTyped t more

  pub BlocksTyped : (ℕ → PlainType) → Blocks → Type 0
  BlocksTyped t end_of_blocks = Unit {0}
  BlocksTyped t (block label args ops more) = ValuesTyped t args × OpsTyped t ops × BlocksTyped t more

-- each result is a value that was made
abbrev pub AllMade : List Source → Type 0
AllMade [] = Unit {0}
AllMade (Made k ∷ ss) = AllMade ss
AllMade (Operand k ∷ ss) = ⊥

made_types : (ty : ℕ → PlainType) (name : ℕ → ℕ) (os : List ℕ) (types made : List PlainType) (ss : List Source) (ts : List PlainType) → AllMade ss → TypesNamed ty name made
    → items_of types made ss ≡ Some ts → map ty (map (number_of name os) ss) ≡ ts
made_types ty name os types made [] ts all typed e = some_same e
made_types ty name os types made (Made k ∷ ss) ts all typed e =
    let b = both (slice_get made k) (items_of types made ss) ts e in
    ap (λ t. t ∷ map ty (map (number_of name os) ss)) (typed k b.first b.first_is) ∙ ap (λ us. b.first ∷ us) (made_types ty name os types made ss b.rest all typed b.rest_is) ∙ sym b.is
made_types ty name os types made (Operand k ∷ ss) ts all typed e = absurd all

-- what stands at a place of two lists
in_either : {A : Type 0} (xs ys : List A) (k : ℕ) (v : A) → slice_get (xs ++ ys) k ≡ Some v → (slice_get xs k ≡ Some v) ⊎ ((j : ℕ) × (length xs + j ≡ k) × (slice_get ys j ≡ Some v))
in_either [] ys k v e = inr (k, omega arith, e)
in_either (x ∷ xs) ys zero v e = inl e
in_either (x ∷ xs) ys (suc k) v e = later (in_either xs ys k v e)
  where
    later : (slice_get xs k ≡ Some v) ⊎ ((j : ℕ) × (length xs + j ≡ k) × (slice_get ys j ≡ Some v)) → (slice_get xs k ≡ Some v) ⊎ ((j : ℕ) × (suc (length xs) + j ≡ suc k) × (slice_get ys j ≡ Some v))
    later (inl h) = inl h
    later (inr h) = inr (h.0, omega (arith, h.1), h.2)

made_named : (ty : ℕ → PlainType) (name : ℕ → ℕ) (n : ℕ) (ts : List PlainType) (k : ℕ) (t : PlainType) → MadeTyped ty name n ts → slice_get ts k ≡ Some t → ty (name (n + k)) ≡ t
made_named ty name n [] k t typed e = absurd (none_some e)
made_named ty name n (u ∷ ts) zero t typed e = ap (λ j. ty (name j)) (omega arith) ∙ typed.0 ∙ some_same e
made_named ty name n (u ∷ ts) (suc k) t typed e = ap (λ j. ty (name j)) (omega arith) ∙ made_named ty name (n + 1) ts k t typed.1 e

steps_named : (ty : ℕ → PlainType) (name : ℕ → ℕ) (n : ℕ) (steps : List Step) (k : ℕ) (t : PlainType) → StepsTyped ty name n steps → slice_get (types_made steps) k ≡ Some t → ty (name (n + k)) ≡ t
steps_named ty name n [] k t typed e = absurd (none_some e)
steps_named ty name n (s ∷ steps) k t typed e = go (in_either s.makes (types_made steps) k t e) (λ j f. steps_named ty name (n + length s.makes) steps j t typed.1 f)
  where
    go : (slice_get s.makes k ≡ Some t) ⊎ ((j : ℕ) × (length s.makes + j ≡ k) × (slice_get (types_made steps) j ≡ Some t)) → ((j : ℕ) → slice_get (types_made steps) j ≡ Some t → ty (name (n + length s.makes + j)) ≡ t) → ty (name (n + k)) ≡ t
    go (inl h) again = made_named ty name n s.makes k t typed.0 h
    go (inr h) again = ap (λ j. ty (name j)) (omega (arith, h.1)) ∙ again h.0 h.2

-- Steps that are written down

written_typed : (ty : ℕ → PlainType) (name : ℕ → ℕ) (n : ℕ) (ts : List PlainType) → ValuesTyped ty (values_made name n ts) → MadeTyped ty name n ts
written_typed ty name n [] typed = tt
written_typed ty name n (t ∷ ts) typed = (typed.0, written_typed ty name (n + 1) ts typed.1)

steps_typed : (ty : ℕ → PlainType) (name : ℕ → ℕ) (os ls : List ℕ) (n : ℕ) (steps : List Step) (rest : Ops) → OpsTyped ty (ops_front (steps_written name os ls n steps []) rest) → StepsTyped ty name n steps × OpsTyped ty rest
steps_typed ty name os ls n [] rest typed = (tt, typed)
steps_typed ty name os ls n (s ∷ steps) rest typed =
    let r = steps_typed ty name os ls (n + length s.makes) steps rest typed.1 in ((written_typed ty name n s.makes typed.0.0, r.0), r.1)

steps_codes : (bits : ℕ) (ty : ℕ → PlainType) (name : ℕ → ℕ) (os ls : List ℕ) (n : ℕ) (steps : List Step) (rest : Ops)
    → ops_codes bits ty (ops_front (steps_written name os ls n steps []) rest) ≡ in_front (steps_lines bits ty name os ls n steps) (ops_codes bits ty rest)
steps_codes bits ty name os ls n [] rest = refl
steps_codes bits ty name os ls n (s ∷ steps) rest =
    ap (code.Op (form_at bits s.name s.props (map ty (map (number_of name os) s.sources)) (types_in (values_made name n s.makes))) (numbers_in (values_made name n s.makes)) (map (number_of name os) s.sources) (labels_at ls s.successors) code.RegionsEnd)
    (steps_codes bits ty name os ls (n + length s.makes) steps rest)

-- where no result is a copy, each is named by what it is
uncopied : (name : ℕ → ℕ) (os : List ℕ) (rs : Values) (ss : List Source) → length rs ≡ length ss → copies name os rs ss [] ≡ [] → map (number_of name os) ss ≡ numbers_in rs
uncopied name os [] [] many none = refl
uncopied name os [] (s ∷ ss) many none = absurd (omega (arith, many))
uncopied name os (r ∷ rs) [] many none = absurd (omega (arith, many))
uncopied name os (r ∷ rs) (s ∷ ss) many none = go (number_of name os s == r.0) refl none (λ h. uncopied name os rs ss (omega (arith, many)) h)
  where
    go : (b : Bool) → (number_of name os s == r.0) ≡ b → (if b then copies name os rs ss [] else copy r (number_of name os s) ∷ copies name os rs ss []) ≡ []
        → (copies name os rs ss [] ≡ [] → map (number_of name os) ss ≡ numbers_in rs) → number_of name os s ∷ map (number_of name os) ss ≡ r.0 ∷ numbers_in rs
    go true is none again = ap (λ n. n ∷ map (number_of name os) ss) (eqb-true (number_of name os s) r.0 is) ∙ ap (λ ns. r.0 ∷ ns) (again none)
    go false is none again = absurd (omega (arith, ap length none))

-- Casts at a block's start

back_codes_at : (bits : ℕ) (ty : ℕ → PlainType) (from : ℕ) (a : ℕ × PlainType) (c : Option PlainType) (rest : Ops) (lines : List Line) (more : code.Ops)
    → ops_codes bits ty rest ≡ in_front lines more
    → ops_codes bits ty (cast_back from a c rest) ≡ in_front (cast_lines_at c (record { form = form_at bits (codes "builtin.unrealized_conversion_cast") [] (map ty (from ∷ [])) (a.1 ∷ []); results = a.0 ∷ []; operands = from ∷ []; labels = [] }) lines) more
back_codes_at bits ty from a None rest lines more is = is
back_codes_at bits ty from a (Some u) rest lines more is =
    ap (code.Op (form_at bits (codes "builtin.unrealized_conversion_cast") [] (map ty (from ∷ [])) (a.1 ∷ [])) (a.0 ∷ []) (from ∷ []) [] code.RegionsEnd) is

back_codes : (bits : ℕ) (ty : ℕ → PlainType) (new : ℕ → ℕ) (k : ℕ) (args : Values) (rest : Ops) → ops_codes bits ty (casts_back bits new k args rest) ≡ in_front (cast_lines bits ty new k args) (ops_codes bits ty rest)
back_codes bits ty new k [] rest = refl
back_codes bits ty new k (a ∷ args) rest =
    back_codes_at bits ty (new k) a (new_type bits a.1) (casts_back bits new (k + 1) args rest) (cast_lines bits ty new (k + 1) args) (ops_codes bits ty rest) (back_codes bits ty new (k + 1) args rest)

back_typed_at : (ty : ℕ → PlainType) (from : ℕ) (a : ℕ × PlainType) (c : Option PlainType) (rest : Ops)
    → ty (new_argument from a c).0 ≡ (new_argument from a c).1 → OpsTyped ty (cast_back from a c rest) → (ty a.0 ≡ a.1) × ArgumentTyped c ty from × OpsTyped ty rest
back_typed_at ty from a None rest arg typed = (arg, tt, typed)
back_typed_at ty from a (Some u) rest arg typed = (typed.0.0.0, arg, typed.1)

back_typed : (bits : ℕ) (ty : ℕ → PlainType) (new : ℕ → ℕ) (k : ℕ) (args : Values) (rest : Ops) → ValuesTyped ty (new_arguments bits new k args) → OpsTyped ty (casts_back bits new k args rest)
    → ValuesTyped ty args × ArgumentsTyped bits ty new k args × OpsTyped ty rest
back_typed bits ty new k [] rest args_typed typed = (tt, tt, typed)
back_typed bits ty new k (a ∷ args) rest args_typed typed =
    let h = back_typed_at ty (new k) a (new_type bits a.1) (casts_back bits new (k + 1) args rest) args_typed.0 typed in
    let r = back_typed bits ty new (k + 1) args rest args_typed.1 h.2 in
    ((h.0, r.0), (h.1, r.1), r.2)

-- Numbers

not_among : (P : ℕ → Type 0) (os : List ℕ) (n : ℕ) → Each P os → ((j : ℕ) → P j → (n == j) ≡ false) → has n os ≡ false
not_among P [] n each apart = refl
not_among P (o ∷ os) n each apart = ap (λ b. b || has n os) (differ o n (λ same. not_same n o (apart o each.0) (sym same))) ∙ not_among P os n each.1 apart

all_old : (P : ℕ → Type 0) (args : Values) → Each P (numbers_in args) → ArgsOld P args
all_old P [] each = tt
all_old P (a ∷ args) each = (each.0, all_old P args each.1)

same_types : (s t : ℕ → PlainType) (Q : ℕ → Type 0) (os : List ℕ) → Each Q os → ((v : ℕ) → Q v → s v ≡ t v) → map s os ≡ map t os
same_types s t Q [] each h = refl
same_types s t Q (o ∷ os) each h = ap (λ x. x ∷ map s os) (h o each.0) ∙ ap (λ xs. t o ∷ xs) (same_types s t Q os each.1 h)

values_of_types : (t : ℕ → PlainType) (vs : Values) → map t (numbers_in vs) ≡ types_in vs → ValuesTyped t vs
values_of_types t [] is = tt
values_of_types t (v ∷ vs) is = (heads is, values_of_types t vs (tails is))
  where
    head_or : PlainType → List PlainType → PlainType
    head_or d [] = d
    head_or d (x ∷ xs) = x

    tail_of : List PlainType → List PlainType
    tail_of [] = []
    tail_of (x ∷ xs) = xs

    heads : {a b : PlainType} {xs ys : List PlainType} → a ∷ xs ≡ b ∷ ys → a ≡ b
    heads {a} is = ap (head_or a) is

    tails : {a b : PlainType} {xs ys : List PlainType} → a ∷ xs ≡ b ∷ ys → xs ≡ ys
    tails is = ap tail_of is

-- What is asked of the source

-- no step is a copy
abbrev pub StepsBare : List Step → Type 0
StepsBare [] = Unit {0}
StepsBare (s ∷ steps) = (bytes_eq s.name copy_name ≡ false) × StepsBare steps

module _ (p : Pass) (bits : ℕ) (new : Supply) (ty : ℕ → PlainType) (P Defined : ℕ → Type 0) where
  -- of an operation that is replaced
  pub record ReplacedOk (n : ℕ) (o : Shape) (rs : Values) (os : List ℕ) (regions : Regions) (t : Template) : Type 0 where
    pub sound : Sound bits o t
    pub replaceable : IsReplaceable (root_form bits o) o.results
    pub made : AllMade t.results
    pub many : length rs ≡ length t.results
    pub no_copies : copies (named (new.value n 0) (numbers rs) t.results) os rs t.results [] ≡ []
    pub no_regions : regions ≡ end_of_regions
    pub bare : StepsBare t.steps

  -- of each operation
  pub record OpOk (n : ℕ) (o : Shape) (rs : Values) (os : List ℕ) (regions : Regions) : Type 0 where
    pub results_old : Each P (numbers_in rs)
    pub operands_old : Each P os
    pub operands_defined : Each Defined os
    pub distinct : Distinct (numbers_in rs)
    pub own : (j : ℕ) → has j (numbers_in rs) ≡ true → has j os ≡ false
    pub replaced : (t : Template) → is_legal p.target o ≡ false → chosen bits p.target p.table [] o ≡ Some t → ReplacedOk n o rs os regions t

  abbrev mutual
    pub OpIsOk : ℕ → Op → Type 0
    OpIsOk n (op k results operands regions successors) = OpOk n (shape_of ty (op k results operands regions successors)) results operands regions × RegionsOk (n + 1) regions

    pub OpsOk : ℕ → Ops → Type 0
    OpsOk n end_of_ops = Unit {0}
    OpsOk n (more_ops o os) = OpIsOk n o × OpsOk (n + op_size o) os

    pub RegionsOk : ℕ → Regions → Type 0
    RegionsOk n end_of_regions = Unit {0}
    RegionsOk n (region blocks more) = BlocksOk n blocks × RegionsOk (n + blocks_size blocks) more

    pub BlocksOk : ℕ → Blocks → Type 0
    BlocksOk n end_of_blocks = Unit {0}
    BlocksOk n (block label args ops more) = Each P (numbers_in args) × Distinct (numbers_in args) × OpsOk n ops × BlocksOk (n + ops_size ops) more

  -- of the new numbers
  pub record NewOk : Type 0 where
    pub value_one : (n j k : ℕ) → new.value n 0 j ≡ new.value n 0 k → j ≡ k
    pub value_new : (n k j : ℕ) → P j → (new.value n 0 k == j) ≡ false
    pub argument_one : (l j k : ℕ) → new.argument l j ≡ new.argument l k → j ≡ k
    pub argument_new : (l k j : ℕ) → P j → (new.argument l k == j) ≡ false

  -- what stands for an operation, by the two ways
  pub line_cases : (Q : List Op → Type 0) (n : ℕ) (o : Shape) (k : Kind) (rs : Values) (os : List ℕ) (regions : Regions) (ls : List ℕ) → Q (op k rs os regions ls ∷ [])
      → ((t : Template) → is_legal p.target o ≡ false → chosen bits p.target p.table [] o ≡ Some t → Q (written (new.value n 0) rs os ls t []))
      → Q (line_of p bits new (source_at n) o (op k rs os regions ls))
  line_cases Q n o k rs os regions ls kept by = go (not (demanded p.mode p.target o)) (is_legal p.target o) refl (chosen bits p.target p.table [] o) refl
    where
      go : (x y : Bool) → is_legal p.target o ≡ y → (c : Option Template) → chosen bits p.target p.table [] o ≡ c
          → Q (if x then op k rs os regions ls ∷ [] else if y then op k rs os regions ls ∷ [] else line_by (new.value n 0) (op k rs os regions ls) c)
      go true y legal c is = kept
      go false true legal c is = kept
      go false false legal None is = kept
      go false false legal (Some t) is = by t legal is

  module _ (moves : Bool) (ty' : ℕ → PlainType) (news : NewOk) where
    abbrev name_at : ℕ → Values → Template → ℕ → ℕ
    name_at n rs t = named (new.value n 0) (numbers_in rs) t.results

    written_is : (n : ℕ) (rs : Values) (os ls : List ℕ) (t : Template) → copies (named (new.value n 0) (numbers rs) t.results) os rs t.results [] ≡ []
        → written (new.value n 0) rs os ls t [] ≡ steps_written (name_at n rs t) os ls 0 t.steps []
    written_is n rs os ls t none = ap (steps_written (name_at n rs t) os ls 0 t.steps) none

    -- The values of the source have their types where those of the new tree do.
    results_typed : (n : ℕ) (o : Shape) (rs : Values) (os ls : List ℕ) (regions : Regions) (t : Template) (rest : Ops) → o.results ≡ types_in rs → ReplacedOk n o rs os regions t
        → OpsTyped ty' (ops_front (written (new.value n 0) rs os ls t []) rest) → ValuesTyped ty' rs × RegionsTyped ty' regions × OpsTyped ty' rest
    results_typed n o rs os ls regions t rest types ok typed =
        let name : ℕ → ℕ = name_at n rs t in
        let h = steps_typed ty' name os ls 0 t.steps rest (subst (λ l. OpsTyped ty' (ops_front l rest)) (written_is n rs os ls t ok.no_copies) typed) in (
          values_of_types ty' rs
              (ap (map ty') (sym (uncopied name os rs t.results ok.many ok.no_copies))
              ∙ made_types ty' name os o.operands (types_made t.steps) t.results o.results ok.made (λ k u e. ap (λ j. ty' (name j)) (omega arith) ∙ steps_named ty' name 0 t.steps k u h.0 e) ok.sound.types ∙ types),
          subst (RegionsTyped ty') (sym ok.no_regions) tt,
          h.1,
        )

    -- the arguments and what is behind their casts
    args_kept : (m : Bool) (label : ℕ) (args : Values) (rest : Ops) → ValuesTyped ty' (args_at m bits (new.argument label) args) → OpsTyped ty' (front_at m bits (new.argument label) args rest)
        → ValuesTyped ty' args × OpsTyped ty' rest
    args_kept true label args rest a b = let h = back_typed bits ty' (new.argument label) 0 args rest a b in (h.0, h.2)
    args_kept false label args rest a b = (a, b)

    mutual
      pub op_kept : (o : Op) (n : ℕ) (rest : Ops) → OpIsOk n o → OpsTyped ty' (ops_front (new_op p bits new ty moves n o) rest) → OpTyped ty' o × OpsTyped ty' rest
      op_kept (op k rs os regions ls) n rest ok typed =
          line_cases (λ line. OpsTyped ty' (ops_front line rest) → OpTyped ty' (op k rs os regions ls) × OpsTyped ty' rest) n (shape_of ty (op k rs os regions ls)) k rs os (new_regions p bits new ty moves (n + 1) regions) ls
          (λ h. ((h.0.0, regions_kept regions (n + 1) ok.1 h.0.1), h.1))
          (λ t legal is h. let r = results_typed n (shape_of ty (op k rs os regions ls)) rs os ls regions t rest refl (ok.0.replaced t legal is) h in ((r.0, r.1), r.2)) typed

      pub ops_kept : (os : Ops) (n : ℕ) → OpsOk n os → OpsTyped ty' (new_ops p bits new ty moves n os) → OpsTyped ty' os
      ops_kept end_of_ops n ok typed = tt
      ops_kept (more_ops o os) n ok typed =
          let h = op_kept o n (new_ops p bits new ty moves (n + op_size o) os) ok.0 typed in (h.0, ops_kept os (n + op_size o) ok.1 h.1)

      pub regions_kept : (rs : Regions) (n : ℕ) → RegionsOk n rs → RegionsTyped ty' (new_regions p bits new ty moves n rs) → RegionsTyped ty' rs
      regions_kept end_of_regions n ok typed = tt
      regions_kept (region blocks more) n ok typed = (blocks_kept blocks n true ok.0 typed.0, regions_kept more (n + blocks_size blocks) ok.1 typed.1)

      pub blocks_kept : (bs : Blocks) (n : ℕ) (is_first : Bool) → BlocksOk n bs → BlocksTyped ty' (new_blocks p bits new ty moves n is_first bs) → BlocksTyped ty' bs
      blocks_kept end_of_blocks n is_first ok typed = tt
      blocks_kept (block label args ops more) n true ok typed =
          (typed.0, ops_kept ops n ok.2 typed.1, blocks_kept more (n + ops_size ops) false ok.3 typed.2)
      blocks_kept (block label args ops more) n false ok typed =
          let h = args_kept moves label args (new_ops p bits new ty moves n ops) typed.0 typed.1 in
          (h.0, ops_kept ops n ok.2 h.1, blocks_kept more (n + ops_size ops) false ok.3 typed.2)

    -- The new tree is one in which operations are replaced by lines.
    module _ (agree : (v : ℕ) → Defined v → ty' v ≡ ty v) where
      abbrev source : Ops → code.Ops
      source os = ops_codes bits ty os

      abbrev target : ℕ → Ops → code.Ops
      target n os = ops_codes bits ty' (new_ops p bits new ty moves n os)

      replaced_changed : (n : ℕ) (k : Kind) (rs : Values) (os : List ℕ) (regions : Regions) (ls : List ℕ) (t : Template) (rest : Ops) (rest1 : code.Ops) → OpOk n (shape_of ty (op k rs os regions ls)) rs os regions
          → ReplacedOk n (shape_of ty (op k rs os regions ls)) rs os regions t → OpsTyped ty' (ops_front (written (new.value n 0) rs os ls t []) rest) → SameOps P rest1 (ops_codes bits ty' rest)
          → SameOps P (op_codes bits ty (op k rs os regions ls) rest1) (ops_codes bits ty' (ops_front (written (new.value n 0) rs os ls t []) rest))
      replaced_changed n k rs os regions ls t rest rest1 ok h typed same_rest =
          subst (λ l. SameOps P (op_codes bits ty (op k rs os regions ls) rest1) (ops_codes bits ty' (ops_front l rest))) (sym (written_is n rs os ls t h.no_copies))
          (subst (λ z. SameOps P (op_codes bits ty (op k rs os regions ls) rest1) z) (sym (steps_codes bits ty' name os ls 0 t.steps rest))
          (swaps (steps_lines bits ty' name os ls 0 t.steps) (unstructured (root_form bits o) o.results h.replaceable) (written_computes P bits ty' o (numbers_in rs) os ls name t replaced) same_rest))
        where
          o : Shape
          o = shape_of ty (op k rs os regions ls)

          name : ℕ → ℕ
          name = name_at n rs t

          replaced : Replaced P bits ty' o (numbers_in rs) os ls name t
          replaced = record {
            sound = h.sound;
            replaceable = h.replaceable;
            operands = ok.operands_old;
            apart = λ j. apart_by j (name_is (new.value n 0) (numbers_in rs) t.results j);
            names_old = λ i j old other. old_by i j old other (name_is (new.value n 0) (numbers_in rs) t.results i);
            one = one_name (new.value n 0) (numbers_in rs) t.results (record {
              apart = news.value_one n;
              fresh = λ j. not_among P (numbers_in rs) (new.value n 0 j) ok.results_old (news.value_new n j);
            }) ok.distinct;
            types_are = same_types ty' ty Defined os ok.operands_defined agree;
            typed = (steps_typed ty' name os ls 0 t.steps rest (subst (λ l. OpsTyped ty' (ops_front l rest)) (written_is n rs os ls t h.no_copies) typed)).0;
            results_are = uncopied name os rs t.results h.many h.no_copies;
            many = mapped_count (λ v. v.1) rs ∙ sym (mapped_count (λ v. v.0) rs);
            places = refl;
          }
            where
              apart_by : (j : ℕ) → (name j ≡ new.value n 0 j) ⊎ (has (name j) (numbers_in rs) ≡ true) → has (name j) os ≡ false
              apart_by j (inl is) = ap (λ x. has x os) is ∙ not_among P os (new.value n 0 j) ok.operands_old (news.value_new n j)
              apart_by j (inr among) = ok.own (name j) among

              old_by : (i j : ℕ) → P j → has j (numbers_in rs) ≡ false → (name i ≡ new.value n 0 i) ⊎ (has (name i) (numbers_in rs) ≡ true) → (name i == j) ≡ false
              old_by i j old other (inl is) = ap (λ x. x == j) is ∙ news.value_new n i j old
              old_by i j old other (inr among) = differ (name i) j (λ same. true≢false (sym among ∙ ap (λ x. has x (numbers_in rs)) same ∙ other))

      block_changed : (m : Bool) (label : ℕ) (args : Values) (ops1 : code.Ops) (ops : Ops) (more1 more : code.Blocks) → Each P (numbers_in args) → Distinct (numbers_in args)
          → ValuesTyped ty' (args_at m bits (new.argument label) args) → OpsTyped ty' (front_at m bits (new.argument label) args ops) → SameOps P ops1 (ops_codes bits ty' ops) → SameBlocks P more1 more
          → SameBlocks P (code.Block label (numbers_in args) ops1 more1) (code.Block label (numbers_in (args_at m bits (new.argument label) args)) (ops_codes bits ty' (front_at m bits (new.argument label) args ops)) more)
      block_changed true label args ops1 ops more1 more old distinct args_typed typed same_ops same_more =
          subst (λ z. SameBlocks P (code.Block label (numbers_in args) ops1 more1) (code.Block label (numbers_in (new_arguments bits (new.argument label) 0 args)) z more)) (sym (back_codes bits ty' (new.argument label) 0 args ops))
          (same_block (cast_lines bits ty' (new.argument label) 0 args)
          (args_restored P bits ty' (new.argument label) (news.argument_one label) (news.argument_new label) args (all_old P args old) distinct (back_typed bits ty' (new.argument label) 0 args ops args_typed typed).1)
          same_ops same_more)
      block_changed false label args ops1 ops more1 more old distinct args_typed typed same_ops same_more = same_block [] (restores_itself P (numbers_in args)) same_ops same_more

      mutual
        op_changed : (o : Op) (n : ℕ) (rest : Ops) (rest1 : code.Ops) → OpIsOk n o → OpsTyped ty' (ops_front (new_op p bits new ty moves n o) rest) → SameOps P rest1 (ops_codes bits ty' rest)
            → SameOps P (op_codes bits ty o rest1) (ops_codes bits ty' (ops_front (new_op p bits new ty moves n o) rest))
        op_changed (op k rs os regions ls) n rest rest1 ok typed same_rest =
            line_cases (λ line. OpsTyped ty' (ops_front line rest) → SameOps P (op_codes bits ty (op k rs os regions ls) rest1) (ops_codes bits ty' (ops_front line rest)))
            n (shape_of ty (op k rs os regions ls)) k rs os (new_regions p bits new ty moves (n + 1) regions) ls
            (λ h. subst (λ ts. SameOps P (code.Op (form_at bits k.name k.props ts (types_in rs)) (numbers_in rs) os ls (regions_codes bits ty regions) rest1)
            (code.Op (form_at bits k.name k.props (map ty' os) (types_in rs)) (numbers_in rs) os ls (regions_codes bits ty' (new_regions p bits new ty moves (n + 1) regions)) (ops_codes bits ty' rest)))
            (same_types ty' ty Defined os ok.0.operands_defined agree)
            (keeps ok.0.operands_old (regions_changed regions (n + 1) ok.1 h.0.1) same_rest))
            (λ t legal is h. replaced_changed n k rs os regions ls t rest rest1 ok.0 (ok.0.replaced t legal is) h same_rest) typed

        pub ops_changed : (os : Ops) (n : ℕ) → OpsOk n os → OpsTyped ty' (new_ops p bits new ty moves n os) → SameOps P (ops_codes bits ty os) (ops_codes bits ty' (new_ops p bits new ty moves n os))
        ops_changed end_of_ops n ok typed = same_end
        ops_changed (more_ops o os) n ok typed =
            let h = op_kept o n (new_ops p bits new ty moves (n + op_size o) os) ok.0 typed in
            op_changed o n (new_ops p bits new ty moves (n + op_size o) os) (ops_codes bits ty os) ok.0 typed (ops_changed os (n + op_size o) ok.1 h.1)

        pub regions_changed : (rs : Regions) (n : ℕ) → RegionsOk n rs → RegionsTyped ty' (new_regions p bits new ty moves n rs) → SameRegions P (regions_codes bits ty rs) (regions_codes bits ty' (new_regions p bits new ty moves n rs))
        regions_changed end_of_regions n ok typed = same_regions_end
        regions_changed (region blocks more) n ok typed = same_region (entry_changed blocks n ok.0 typed.0) (regions_changed more (n + blocks_size blocks) ok.1 typed.1)

        pub entry_changed : (bs : Blocks) (n : ℕ) → BlocksOk n bs → BlocksTyped ty' (new_blocks p bits new ty moves n true bs) → SameEntry P (blocks_codes bits ty bs) (blocks_codes bits ty' (new_blocks p bits new ty moves n true bs))
        entry_changed end_of_blocks n ok typed = same_entry_end
        entry_changed (block label args ops more) n ok typed = same_entry (ops_changed ops n ok.2 typed.1) (blocks_changed more (n + ops_size ops) ok.3 typed.2)

        pub blocks_changed : (bs : Blocks) (n : ℕ) → BlocksOk n bs → BlocksTyped ty' (new_blocks p bits new ty moves n false bs) → SameBlocks P (blocks_codes bits ty bs) (blocks_codes bits ty' (new_blocks p bits new ty moves n false bs))
        blocks_changed end_of_blocks n ok typed = same_blocks_end
        blocks_changed (block label args ops more) n ok typed =
            let h = args_kept moves label args (new_ops p bits new ty moves n ops) typed.0 typed.1 in
            block_changed moves label args (ops_codes bits ty ops) (new_ops p bits new ty moves n ops) (blocks_codes bits ty more) (blocks_codes bits ty' (new_blocks p bits new ty moves (n + ops_size ops) false more)) ok.0 ok.1 typed.0 typed.1
            (ops_changed ops n ok.2 h.1) (blocks_changed more (n + ops_size ops) ok.3 typed.2)
