-- Chosen derivations in which each result is a value that was made, and no step is a copy.
use Rattle.std.proofs.Common.{◌≡◌, ◌⊎◌, inl, inr, ℕ, zero, suc, ◌+◌, ◌==◌, ◌≤◌, Bool, true, false, List, [], ◌∷◌, ◌++◌, Option, Some, None, length, map, get_or, refl, sym, ap, ◌∙◌, subst, arith, true≢false, append_assoc, append-nil}
use Rattle.std.specs.Prelude.{slice_get, bytes_eq, ◌||◌, if◌then◌else◌}
use Rattle.std.specs.List.{list_any}
use Rattle.std.proofs.lemmas.Slice.Eq.{bytes_eq-Decides}
use Rattle.conversion_model.proofs.ReconcileLaws.{same_number}
use Rattle.plain_tree.specs.Types.{PlainType}
use Rattle.plain_tree.specs.Ops.{Values}
use Rattle.conversion_model.specs.declared.templates.Source.{Source}
use Rattle.conversion_model.specs.declared.templates.Source.TheVariants.{Operand, Made}
use Rattle.conversion_model.specs.Types.{or_same}
use Rattle.conversion_model.specs.Templates.{Step, Template, copies, copy, copy_name, named, numbers}
use Rattle.conversion_model.specs.Targets.{Shape, Target, is_legal}
use Rattle.conversion_model.specs.Rows.{Row, Straight, Cutting, Framing, Pattern}
use Rattle.conversion_model.specs.Chosen.{Ending, Leaves, Ranked, State, after, by_first, by_row, by_template, change_of, chosen, chosen_within, give_one, give_results, has_root, here, itself, moved_step, or_else, order, placed, places, product, products, ranked, take_one, take_operands, with_operand}
use Rattle.sound_model.specs.Soundness.{FitIfRoot, IsFit, PatternSound, PatternsSound, RowSound, RowsSound, StepsFit, all_changed, is_root, step_shape}
use Rattle.chosen_laws.proofs.Lists.{none_some, some_same}
use Rattle.chosen_laws.proofs.Derivations.{length_joined, parts, types_are}
use Rattle.chosen_laws.proofs.Casts.{changed_joined}
use Rattle.conversion_laws.specs.PlainRows.{AllOf, MadeOrCast, PatternPlain, RowIsPlain, Uncopied, is_cast, is_made}
use Rattle.conversion_laws.proofs.Trees.{AllMade, StepsBare}
use Rattle.conversion_laws.proofs.Texts.{order_all}

-- a template in which each result is made and no step is a copy
pub record IsPlain (t : Template) : Type 0 where
  pub made : AllMade t.results
  pub bare : StepsBare t.steps

-- a source that is made
abbrev IsMade : Source → Type 0
IsMade (Made k) = Unit {0}
IsMade (Operand k) = ⊥

-- where a type changes
abbrev Changed : Option PlainType → Type 0
Changed None = ⊥
Changed (Some u) = Unit {0}

-- Lists

made_joined : (ss rs : List Source) → AllMade ss → AllMade rs → AllMade (ss ++ rs)
made_joined [] rs a b = b
made_joined (Made k ∷ ss) rs a b = made_joined ss rs a b
made_joined (Operand k ∷ ss) rs a b = absurd a

made_placed : (sources : List Source) (n : ℕ) (ss : List Source) → AllMade ss → AllMade (map (placed sources n) ss)
made_placed sources n [] a = tt
made_placed sources n (Made k ∷ ss) a = made_placed sources n ss a
made_placed sources n (Operand k ∷ ss) a = absurd a

made_places : {A : Type 0} (k : ℕ) (xs : List A) → AllMade (map Made (places k xs))
made_places k [] = tt
made_places k (x ∷ xs) = made_places (k + 1) xs

made_at : (ss : List Source) (k j : ℕ) → AllMade ss → IsMade (get_or ss k (Made j))
made_at [] k j a = tt
made_at (Made i ∷ ss) zero j a = tt
made_at (Made i ∷ ss) (suc k) j a = made_at ss k j a
made_at (Operand i ∷ ss) k j a = absurd a

bare_joined : (steps more : List Step) → StepsBare steps → StepsBare more → StepsBare (steps ++ more)
bare_joined [] more a b = b
bare_joined (s ∷ steps) more a b = (a.0, bare_joined steps more a.1 b)

bare_moved : (sources : List Source) (n : ℕ) (successors : List ℕ) (steps : List Step) → StepsBare steps → StepsBare (map (moved_step sources n successors) steps)
bare_moved sources n successors [] a = tt
bare_moved sources n successors (s ∷ steps) a = (a.0, bare_moved sources n successors steps a.1)

-- operands that are taken: made where their types change
abbrev MadeIf : Option PlainType → Source → Type 0
MadeIf None s = Unit {0}
MadeIf (Some u) s = IsMade s

abbrev Taken : (PlainType → Option PlainType) → List PlainType → List Source → Type 0
Taken change [] ss = Unit {0}
Taken change (t ∷ ts) [] = ⊥
Taken change (t ∷ ts) (s ∷ ss) = MadeIf (change t) s × Taken change ts ss

taken_more : (change : PlainType → Option PlainType) (ts : List PlainType) (ss : List Source) (t : PlainType) (s : Source) → length ts ≡ length ss → Taken change ts ss → MadeIf (change t) s → Taken change (ts ++ t ∷ []) (ss ++ s ∷ [])
taken_more change [] [] t s many taken h = (h, tt)
taken_more change [] (r ∷ ss) t s many taken h = absurd (omega (arith, many))
taken_more change (u ∷ ts) [] t s many taken h = absurd taken
taken_more change (u ∷ ts) (r ∷ ss) t s many taken h = (taken.0, taken_more change ts ss t s (omega (arith, many)) taken.1 h)

taken_at : (change : PlainType → Option PlainType) (ts : List PlainType) (ss : List Source) (k : ℕ) (d : Source) (t u : PlainType) → Taken change ts ss → slice_get ts k ≡ Some t → change t ≡ Some u → IsMade (get_or ss k d)
taken_at change [] ss k d t u taken e f = absurd (none_some e)
taken_at change (x ∷ ts) [] k d t u taken e f = absurd taken
taken_at change (x ∷ ts) (s ∷ ss) zero d t u taken e f = subst (λ c. MadeIf c s) (ap change (some_same e) ∙ f) taken.0
taken_at change (x ∷ ts) (s ∷ ss) (suc k) d t u taken e f = taken_at change ts ss k d t u taken.1 e f

-- By a template

module _ (table : List Pattern) (leaves : Leaves) (leaves_plain : (o : Shape) (t : Template) → FitIfRoot table o → leaves o ≡ Some t → IsPlain t) where
  products_plain : (last : Ending) (operands : List Source) (operand_types : List PlainType)
      → ((s : State) (rest : Template) → s.operands ≡ operands → AllMade s.made → last s ≡ Some rest → IsPlain rest)
      → (xs : List Step) (s : State) (rest : Template) → s.operands ≡ operands → AllMade s.made → StepsFit table s.operand_types xs s.made_types → products leaves last xs s ≡ Some rest → IsPlain rest
  products_plain last operands operand_types last_plain [] s rest ops made fits e = last_plain s rest ops made e
  products_plain last operands operand_types last_plain (x ∷ xs) s rest ops made fits e =
      let p = parts (leaves (product s x)) _ rest e in
      let q = parts (products leaves last xs (after s x p.value)) _ rest p.rest in
      let fit : FitIfRoot table (product s x) = subst (λ z. FitIfRoot table (step_shape x z)) (sym (types_are s x.sources fits.0.0 fits.0.1)) fits.0.2 in
      let plain : IsPlain p.value = leaves_plain (product s x) p.value fit p.is in
      let again : IsPlain q.value =
      products_plain last operands operand_types last_plain xs (after s x p.value) q.value ops
      (made_joined s.made (map (placed (map (here s) x.sources) s.count) p.value.results) made (made_placed (map (here s) x.sources) s.count p.value.results plain.made)) fits.1 q.is in
      subst IsPlain (some_same q.rest) (record {
        made = again.made;
        bare = bare_joined (map (moved_step (map (here s) x.sources) s.count x.successors) p.value.steps) q.value.steps (bare_moved (map (here s) x.sources) s.count x.successors p.value.steps plain.bare) again.bare;
      })

  module _ (change : PlainType → Option PlainType) (types : List PlainType) where
    with_made : (v : Source) (t : Template) → IsMade v → IsPlain t → AllMade (v ∷ t.results)
    with_made (Made k) t m h = h.made
    with_made (Operand k) t m h = absurd m

    give_plain : (rts : List PlainType) (ss : List Source) (vs : List Source) (n : ℕ) (h : Source → Source) → ((s : Source) → MadeOrCast change types s → IsMade (h s)) → Uncopied change types rts ss → vs ≡ map h ss → IsPlain (give_results change rts vs n)
    give_plain [] ss vs n h here_made uncopied is = record { made = tt; bare = tt }
    give_plain (t ∷ rts) [] vs n h here_made uncopied is = subst (λ z. IsPlain (give_results change (t ∷ rts) z n)) (sym is) (record { made = tt; bare = tt })
    give_plain (t ∷ rts) (s ∷ ss) vs n h here_made uncopied is =
        subst (λ z. IsPlain (give_results change (t ∷ rts) z n)) (sym is)
        (one (change t) refl uncopied.0 (give_plain rts ss (map h ss) n h here_made uncopied.1 refl) (give_plain rts ss (map h ss) (n + 1) h here_made uncopied.1 refl))
      where
        one : (c : Option PlainType) → change t ≡ c → MadeOrCast change types s ⊎ ((u : PlainType) × (change t ≡ Some u)) → IsPlain (give_results change rts (map h ss) n) → IsPlain (give_results change rts (map h ss) (n + 1))
            → IsPlain (give_one c (h s) t (give_results change rts (map h ss)) n)
        one None stays (inl m) same next = record { made = with_made (h s) (give_results change rts (map h ss) n) (here_made s m) same; bare = same.bare }
        one None stays (inr u) same next = absurd (none_some (sym stays ∙ u.1))
        one (Some u) changes m same next = record { made = next.made; bare = (refl, next.bare) }

    take_plain : (next : Ending) → ((ss : List Source) (n : ℕ) (rest : Template) → Taken change types ss → next (record { operands = ss; operand_types = all_changed change types; made = []; made_types = []; count = n }) ≡ Some rest → IsPlain rest)
        → (us first : List PlainType) (k : ℕ) (ss : List Source) (n : ℕ) (rest : Template) → first ++ us ≡ types → length first ≡ length ss → Taken change first ss
        → take_operands change next k us (record { operands = ss; operand_types = all_changed change first; made = []; made_types = []; count = n }) ≡ Some rest → IsPlain rest
    take_plain next next_plain [] first k ss n rest is many taken e =
        let all : first ≡ types = sym (append-nil first) ∙ is in
        next_plain ss n rest (subst (λ z. Taken change z ss) all taken) (ap (λ z. next (record { operands = ss; operand_types = all_changed change z; made = []; made_types = []; count = n })) (sym all) ∙ e)
    take_plain next next_plain (t ∷ us) first k ss n rest is many taken e =
        one (change t) refl e (λ s m rest1 h e1. take_plain next next_plain us (first ++ t ∷ []) (k + 1) (ss ++ s ∷ []) m rest1 (append_assoc first (t ∷ []) us ∙ is)
        (length_joined first (t ∷ []) ∙ ap (λ z. z + 1) many ∙ sym (length_joined ss (s ∷ []))) (taken_more change first ss t s many taken h) e1)
      where
        joined : (c : Option PlainType) → change t ≡ c → all_changed change first ++ or_same t c ∷ [] ≡ all_changed change (first ++ t ∷ [])
        joined c is = sym (changed_joined change first (t ∷ []) ∙ ap (λ z. all_changed change first ++ or_same t z ∷ []) is)

        one : (c : Option PlainType) → change t ≡ c → take_one c k t (take_operands change next (k + 1) us) (record { operands = ss; operand_types = all_changed change first; made = []; made_types = []; count = n }) ≡ Some rest
            → ((s : Source) (m : ℕ) (rest1 : Template) → MadeIf (change t) s → take_operands change next (k + 1) us (record { operands = ss ++ s ∷ []; operand_types = all_changed change (first ++ t ∷ []); made = []; made_types = []; count = m }) ≡ Some rest1 → IsPlain rest1)
            → IsPlain rest
        one None is e again =
            again (Operand k) (n + 0) rest (subst (λ c. MadeIf c (Operand k)) (sym is) tt)
            (ap (λ z. take_operands change next (k + 1) us (record { operands = ss ++ Operand k ∷ []; operand_types = z; made = []; made_types = []; count = n + 0 })) (sym (joined None is)) ∙ e)
        one (Some u) is e again =
            let q = parts (take_operands change next (k + 1) us (with_operand (Made n) u 1 (record { operands = ss; operand_types = all_changed change first; made = []; made_types = []; count = n }))) _ rest e in
            let plain : IsPlain q.value =
            again (Made n) (n + 1) q.value (subst (λ c. MadeIf c (Made n)) (sym is) tt)
            (ap (λ z. take_operands change next (k + 1) us (record { operands = ss ++ Made n ∷ []; operand_types = z; made = []; made_types = []; count = n + 1 })) (sym (joined (Some u) is)) ∙ q.is) in
            subst IsPlain (some_same q.rest) (record { made = plain.made; bare = (refl, plain.bare) })

  by_template_plain : (change : PlainType → Option PlainType) (o : Shape) (t whole : Template) → StepsFit table (all_changed change o.operands) t.steps [] → Uncopied change o.operands o.results t.results
      → by_template change leaves o t ≡ Some whole → IsPlain whole
  by_template_plain change o t whole fits uncopied e =
      take_plain change o.operands _
      (λ ss n rest taken is. products_plain _ ss (all_changed change o.operands)
      (λ s rest1 ops made is1. subst IsPlain (some_same is1) (give_plain change o.operands o.results t.results (map (here s) t.results) s.count (here s) (λ x. here_made ss taken s ops made x) uncopied refl))
      t.steps (record { operands = ss; operand_types = all_changed change o.operands; made = []; made_types = []; count = n }) rest refl tt fits is)
      o.operands [] 0 [] 0 whole refl refl tt e
    where
      here_made : (ss : List Source) → Taken change o.operands ss → (s : State) → s.operands ≡ ss → AllMade s.made → (x : Source) → MadeOrCast change o.operands x → IsMade (here s x)
      here_made ss taken s ops made _ (is_made {k = k}) = made_at s.made k k made
      here_made ss taken s ops made _ (is_cast {k = k} {t = t1} {u = u} at changes) = subst (λ z. IsMade (get_or z k (Operand k))) (sym ops) (taken_at change o.operands ss k (Operand k) t1 u taken at changes)

-- By the first pattern

-- a pattern that is sound and plain, of that root
abbrev IsPlainAt : ℕ → List Pattern → List ℕ → Ranked → Type 0
IsPlainAt bits table name r = (PatternSound bits table r.pattern × PatternPlain bits r.pattern) × (name ≡ r.pattern.root) × (is_root table name ≡ true)

or_true : (a b : Bool) → b ≡ true → (a || b) ≡ true
or_true true b is = refl
or_true false b is = is

true_or : (a b : Bool) → a ≡ true → (a || b) ≡ true
true_or true b is = refl
true_or false b is = absurd (true≢false (sym is))

rooted_all : (bits : ℕ) (table : List Pattern) (depth : Pattern → Option ℕ) (name : List ℕ) (place : ℕ) (ps : List Pattern) → PatternsSound bits table ps → AllOf (PatternPlain bits) ps
    → (list_any (has_root name) ps ≡ true → is_root table name ≡ true) → AllOf (IsPlainAt bits table name) (ranked depth name place ps)
rooted_all bits table depth name place [] sound plain among = tt
rooted_all bits table depth name place (p ∷ ps) sound plain among =
    go (has_root name p) refl (rooted_all bits table depth name (place + 1) ps sound.1 plain.1 (λ h. among (or_true (has_root name p) (list_any (has_root name) ps) h)))
  where
    go : (b : Bool) → has_root name p ≡ b → AllOf (IsPlainAt bits table name) (ranked depth name (place + 1) ps)
        → AllOf (IsPlainAt bits table name) (if b then record { pattern = p; place = place; depth = depth p } ∷ ranked depth name (place + 1) ps else ranked depth name (place + 1) ps)
    go true is behind = (((sound.0, plain.0), sym ((bytes_eq-Decides p.root name).0 is), among (true_or (has_root name p) (list_any (has_root name) ps) is)), behind)
    go false is behind = behind

-- what is known of an operation that a pattern replaces
pub record FewResults (o : Shape) : Type 0 where
  pub few : length o.results ≤ 1
  pub no_regions : o.regions ≡ 0

module _ (bits : ℕ) (table : List Pattern) where
  row_plain : (leaves : Leaves) → ((o : Shape) (t : Template) → FitIfRoot table o → leaves o ≡ Some t → IsPlain t) → (is_converted : Bool) (root : List ℕ) (row : Row) (o : Shape) (t : Template) → o.name ≡ root → IsFit o
      → RowSound bits table root (change_of bits is_converted) row → RowIsPlain root (change_of bits is_converted) row → by_row bits is_converted leaves o row ≡ Some t → IsPlain t × FewResults o
  row_plain leaves leaves_plain is_converted root (Straight row) o t name fit sound plain e =
      let p = parts (row o) _ t e in
      let h = sound o p.value name fit p.is in
      let g = plain o p.value name fit p.is in
      (by_template_plain table leaves leaves_plain (change_of bits is_converted) o p.value t h.steps g.uncopied p.rest, record { few = g.few; no_regions = g.no_regions })
  row_plain leaves leaves_plain is_converted root (Cutting row) o t name fit sound plain e = absurd (none_some e)
  row_plain leaves leaves_plain is_converted root (Framing row) o t name fit sound plain e = absurd (none_some e)

  first_plain : (leaves : List ℕ → Leaves) → ((path : List ℕ) (o : Shape) (t : Template) → FitIfRoot table o → leaves path o ≡ Some t → IsPlain t) → (path : List ℕ) (o : Shape) (t : Template) (rs : List Ranked) → FitIfRoot table o
      → AllOf (IsPlainAt bits table o.name) rs → by_first bits leaves path o rs ≡ Some t → IsPlain t × FewResults o
  first_plain leaves leaves_plain path o t [] fit all e = absurd (none_some e)
  first_plain leaves leaves_plain path o t (r ∷ rs) fit all e =
      go (list_any (λ place. place == r.place) path) (by_row bits r.pattern.is_converted (leaves (r.place ∷ path)) o (r.pattern.row bits)) refl e (first_plain leaves leaves_plain path o t rs fit all.1)
    where
      go : (b : Bool) (x : Option Template) → by_row bits r.pattern.is_converted (leaves (r.place ∷ path)) o (r.pattern.row bits) ≡ x
          → (if b then by_first bits leaves path o rs else or_else x (by_first bits leaves path o rs)) ≡ Some t → (by_first bits leaves path o rs ≡ Some t → IsPlain t × FewResults o) → IsPlain t × FewResults o
      go true x is e behind = behind e
      go false None is e behind = behind e
      go false (Some u) is e behind =
          row_plain (leaves (r.place ∷ path)) (leaves_plain (r.place ∷ path)) r.pattern.is_converted r.pattern.root (r.pattern.row bits) o t all.0.1 (fit all.0.2) all.0.0.0 all.0.0.1 (is ∙ e)

  module _ (target : Target) (rows_sound : RowsSound bits table) (rows_plain : AllOf (PatternPlain bits) table) (legal_bare : (o : Shape) → is_legal target o ≡ true → bytes_eq o.name copy_name ≡ false) where
    within_plain : (room : ℕ) (path : List ℕ) (o : Shape) (t : Template) → FitIfRoot table o → chosen_within bits target (order target table) room path o ≡ Some t → IsPlain t × (is_legal target o ≡ false → FewResults o)
    within_plain zero path o t fit e = absurd (none_some e)
    within_plain (suc room) path o t fit e =
        go (is_legal target o) refl e
        (first_plain (chosen_within bits target (order target table) room) (λ longer q u h is. (within_plain room longer q u h is).0) path o t (order target table o.name) fit
        (order_all (IsPlainAt bits table o.name) _ (rooted_all bits table _ o.name 0 table rows_sound rows_plain (λ h. h))))
      where
        go : (b : Bool) → is_legal target o ≡ b → (if b then Some (itself o) else by_first bits (chosen_within bits target (order target table) room) path o (order target table o.name)) ≡ Some t
            → (by_first bits (chosen_within bits target (order target table) room) path o (order target table o.name) ≡ Some t → IsPlain t × FewResults o) → IsPlain t × (is_legal target o ≡ false → FewResults o)
        go true is e behind = (subst IsPlain (some_same e) (record { made = made_places 0 o.results; bare = (legal_bare o is, tt) }), λ h. absurd (true≢false (sym is ∙ h)))
        go false is e behind = let h = behind e in (h.0, λ z. h.1)

    pub chosen_plain : (path : List ℕ) (o : Shape) (t : Template) → FitIfRoot table o → chosen bits target table path o ≡ Some t → IsPlain t × (is_legal target o ≡ false → FewResults o)
    chosen_plain path o t fit e = within_plain (suc (length table)) path o t fit (ap (λ n. chosen_within bits target (order target table) n path o) (one_more (length table)) ∙ e)
      where
        one_more : (n : ℕ) → suc n ≡ n + 1
        one_more n = omega arith

-- Where there is one result at most, and it is made, it is no copy.
pub no_copies : (new : ℕ → ℕ) (os : List ℕ) (rs : Values) (ss : List Source) → length rs ≤ 1 → length rs ≡ length ss → AllMade ss → copies (named new (numbers rs) ss) os rs ss [] ≡ []
no_copies new os [] ss few many all = refl
no_copies new os (r ∷ []) [] few many all = refl
no_copies new os (r ∷ []) (Made k ∷ []) few many all =
    ap (λ b. if b then [] else copy r (named new (r.0 ∷ []) (Made k ∷ []) k) ∷ []) (same_number (named new (r.0 ∷ []) (Made k ∷ []) k) r.0 (ap (λ b. if b then r.0 else new k) (same_number k k refl)))
no_copies new os (r ∷ []) (Operand k ∷ ss) few many all = absurd all
no_copies new os (r ∷ []) (Made k ∷ s ∷ ss) few many all = absurd (omega (arith, many))
no_copies new os (r ∷ q ∷ rs) ss few many all = absurd (omega (arith, few))
