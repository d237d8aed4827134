-- A template that fits, written down with numbers.
use Rattle.std.proofs.Common.{◌≡◌, ℕ, zero, suc, ◌+◌, ◌==◌, ◌<◌, ◌≤◌, Bool, true, false, List, [], ◌∷◌, ◌++◌, Some, None, refl, sym, ap, ◌∙◌, subst, length, map, inl, inr, arith}
use Rattle.std.specs.Prelude.{get_or, ◌||◌, ◌⊎◌, not, if◌then◌else◌}
use Rattle.std.specs.List.{list_all}
use Rattle.std.proofs.lemmas.Option.{none-some}
use Rattle.std.proofs.lemmas.Bool.{eqb-false, eqb-true}
use Rattle.plain_tree.specs.Types.{PlainType}
use Rattle.plain_tree.specs.Ops.{Op}
use Rattle.rule_model.specs.Words.{AllOf, has, numbers, successors_of}
use Rattle.rule_model.specs.Rows.{ends_block_as, shape_of, is_terminator}
use Rattle.rule_model.specs.Forms.{at_place, is_some_of}
use Rattle.rule_model.specs.Formed.{are_formed_values, is_formed_type}
use Rattle.rule_model.proofs.Numbers.{and_first, and_second, itself, some_same}
use Rattle.conversion_model.specs.declared.templates.Source.{Source}
use Rattle.conversion_model.specs.declared.templates.Source.TheVariants.{Operand, Made}
use Rattle.conversion_model.specs.Templates.{labels_at, number_of, Step, step_op, steps_written, values_made}
use Rattle.conversion_model.specs.Targets.{Shape, shape_of as of_shape}
use Rattle.line_rules.specs.Lines.{Below, From, HasValue, list_values, OneFormed, Ranks, Steps}
use Rattle.fitting_rows.specs.Typed.{made_types, source_type, source_types, step_shape, TypedStep, TypedSteps}
use Rattle.line_rules.specs.Fits.{Fits}
use Rattle.line_rules.proofs.SameTypes.{and_true}
use Rattle.fitting_rows.proofs.TypedSteps.{and_parts, at_left, at_right, joined_twice, length_joined}
use Rattle.line_rules.proofs.LineTests.{alone}
use Rattle.rule_model.specs.Control.{ends_well}

-- Places

place_low : {A : Type 0} (k : ℕ) (xs : List A) (x : A) → at_place k xs ≡ Some x → k < length xs
place_low k [] x e = absurd (none-some x e)
place_low zero (y ∷ xs) x e = omega arith
place_low (suc k) (y ∷ xs) x e = omega (arith, place_low k xs x e)

get_has : (k d : ℕ) (os : List ℕ) → k < length os → has (get_or os k d) os ≡ true
get_has k d [] h = absurd (omega (arith, h))
get_has zero d (o ∷ os) h = ap (λ b. b || has o os) (itself o)
get_has (suc k) d (o ∷ os) h = or_later (o == get_or os k d) (get_has k d os (omega (arith, h)))
  where
    or_later : (b : Bool) {c : Bool} → c ≡ true → (b || c) ≡ true
    or_later true e = refl
    or_later false e = e

get_type : (T : ℕ → PlainType) (k d : ℕ) (os : List ℕ) (t : PlainType) → at_place k (map T os) ≡ Some t → T (get_or os k d) ≡ t
get_type T k d [] t e = absurd (none-some t e)
get_type T zero d (o ∷ os) t e = some_same (T o) t e
get_type T (suc k) d (o ∷ os) t e = get_type T k d os t e

map_count : (T : ℕ → PlainType) (os : List ℕ) → length (map T os) ≡ length os
map_count T [] = refl
map_count T (o ∷ os) = omega (arith, map_count T os)

pub record One {A : Type 0} (xs : List A) : Type 0 where
  pub item : A
  pub is : xs ≡ item ∷ []

pub one_of_length : {A : Type 0} (xs : List A) → length xs ≡ 1 → One xs
one_of_length [] e = absurd (omega (arith, e))
one_of_length (x ∷ []) e = record { item = x; is = refl }
one_of_length (x ∷ y ∷ xs) e = absurd (omega (arith, e))

pub none_of_length : {A : Type 0} (xs : List A) → length xs ≡ 0 → xs ≡ []
none_of_length [] e = refl
none_of_length (x ∷ xs) e = absurd (omega (arith, e))

-- a name of an operation that fits is none of a terminator, and known
pub fits_on : (o : Shape) → Fits o → is_terminator o.name ≡ false
fits_on o f = ap ends_block_as f.known ∙ (alone (record { all = []; earlier = [] }) o None false f.form f.line).goes_on

pub fits_not_last : (o : Shape) → Fits o → ends_well (Some o.name) ≡ false
fits_not_last o f = ap (λ b. b || not (is_some_of (shape_of o.name))) (fits_on o f) ∙ ap (λ x. not (is_some_of x)) f.known

step_goes_on : (x : Step) (ts : List PlainType) → Fits (step_shape x ts) → is_terminator x.name ≡ false
step_goes_on x ts f = fits_on (step_shape x ts) f

-- Names, where the m-th value is the result v

module _ (Old : ℕ → Type 0) (new : ℕ → ℕ) (v m : ℕ) (os ls : List ℕ) (T : ℕ → PlainType) (fresh : (x j : ℕ) → Old x → x ≡ new j → ⊥) where
  abbrev pub name : ℕ → ℕ
  name i = if m == i then v else new i

  pub name_last : name m ≡ v
  name_last = ap (λ b. if b then v else new m) (itself m)

  name_below : (i : ℕ) → i < m → name i ≡ new i
  name_below i h = go (m == i) refl
    where
      go : (b : Bool) → (m == i) ≡ b → (if b then v else new i) ≡ new i
      go true e = absurd (omega (arith, eqb-true m i e, h))
      go false e = refl

  abbrev at : ℕ → Step → Op
  at n x = step_op name os ls n x

  -- a source is an operand or an earlier value
  source_ranks : (n : ℕ) (ms : List PlainType) (s : Source) (t : PlainType) → length ms ≡ n → n ≤ m → source_type (map T os) ms s ≡ Some t → (has (number_of name os s) os ≡ true) ⊎ Below new n (number_of name os s)
  source_ranks n ms (Operand k) t e h f = inl (get_has k (name 0) os (omega (arith, place_low k (map T os) t f, map_count T os)))
  source_ranks n ms (Made k) t e h f =
      let low : k < n = omega (arith, place_low k ms t f, e) in
      inr (record { place = k; is = name_below k (omega (arith, low, h)); low = low })

  sources_ranks : (n : ℕ) (ms : List PlainType) (ss : List Source) (ts : List PlainType) → length ms ≡ n → n ≤ m → source_types (map T os) ms ss ≡ Some ts
      → AllOf (λ x. (has x os ≡ true) ⊎ Below new n x) (map (number_of name os) ss)
  sources_ranks n ms [] ts e h f = tt
  sources_ranks n ms (s ∷ ss) ts e h f =
      let p = and_parts (source_type (map T os) ms s) (source_types (map T os) ms ss) ts f in
      (source_ranks n ms s p.head e h p.first, sources_ranks n ms ss p.tail e h p.rest)

  abbrev Known : ℕ → List ℕ → Type 0
  Known n made = (j : ℕ) → j < n → j < m → has (new j) made ≡ true

  below_made : (n : ℕ) (made xs : List ℕ) → n ≤ m → Known n made → AllOf (λ x. (has x os ≡ true) ⊎ Below new n x) xs → AllOf (λ x. (has x os ≡ true) ⊎ (has x made ≡ true)) xs
  below_made n made [] h known all = tt
  below_made n made (x ∷ xs) h known all = (
    elim all.0 [ inl a ↦ inl a | inr b ↦ inr (ap (λ y. has y made) b.is ∙ known b.place b.low (omega (arith, b.low, h))) ],
    below_made n made xs h known all.1,
  )

  -- the value of a step
  abbrev Made_one : Step → ℕ → Type 0
  Made_one x n = numbers (values_made name n x.makes) ≡ name n ∷ []

  made_one : (x : Step) (n : ℕ) → length x.makes ≡ 1 → Made_one x n
  made_one x n e = let o = one_of_length x.makes e in ap (λ ts. numbers (values_made name n ts)) o.is

  result_ranks : (n : ℕ) → n ≤ m → AllOf (λ x. (has x (v ∷ []) ≡ true) ⊎ From new n x) (name n ∷ [])
  result_ranks n h = go (m == n) refl
    where
      go : (b : Bool) → (m == n) ≡ b → AllOf (λ x. (has x (v ∷ []) ≡ true) ⊎ From new n x) ((if b then v else new n) ∷ [])
      go true e = (inl (ap (λ b. b || false) (itself v)), tt)
      go false e = (inr (record { place = n; is = refl; high = omega arith }), tt)

  result_old : (n : ℕ) → AllOf (λ x. Old x → has x (v ∷ []) ≡ true) (name n ∷ [])
  result_old n = go (m == n)
    where
      go : (b : Bool) → AllOf (λ x. Old x → has x (v ∷ []) ≡ true) ((if b then v else new n) ∷ [])
      go true = (λ old. ap (λ b. b || false) (itself v), tt)
      go false = (λ old. absurd (fresh (new n) n old refl), tt)

  -- how many values are left
  left_more : (n : ℕ) (x : Step) (xs : List Step) → length x.makes ≡ 1 → n + length (made_types (x ∷ xs)) ≡ m + 1 → (n ≤ m) × (n + 1 + length (made_types xs) ≡ m + 1)
  left_more n x xs one e =
      let all : length (x.makes ++ made_types xs) ≡ length x.makes + length (made_types xs) = length_joined x.makes (made_types xs) in
      (omega (arith, all, one, e), omega (arith, all, one, e))

  pub steps_ranks : (n : ℕ) (ms : List PlainType) (xs : List Step) → length ms ≡ n → n + length (made_types xs) ≡ m + 1 → TypedSteps Fits (map T os) ms xs → Ranks new (v ∷ []) os n (steps_written name os ls n xs [])
  steps_ranks n ms [] e left typed = tt
  steps_ranks n ms (x ∷ xs) e left typed =
      let first : TypedStep Fits (map T os) ms x = typed.0 in
      let one : length x.makes ≡ 1 = first.fits.one in
      let more = left_more n x xs one left in (
        refl,
        sources_ranks n ms x.sources first.types e more.0 first.are,
        subst (AllOf (λ y. (has y (v ∷ []) ≡ true) ⊎ From new n y)) (sym (made_one x n one)) (result_ranks n more.0),
        subst (λ k. Ranks new (v ∷ []) os k (steps_written name os ls (n + length x.makes) xs [])) (ap (λ l. n + length l) (sym (made_one x n one)) ∙ refl)
            (subst (λ k. Ranks new (v ∷ []) os (n + 1) (steps_written name os ls k xs [])) (ap (λ k. n + k) (sym one))
            (steps_ranks (n + 1) (ms ++ x.makes) xs (length_joined ms x.makes ∙ omega (arith, e, one)) more.1 typed.1)),
      )

  known_more : (n : ℕ) (made : List ℕ) → Known n made → Known (n + 1) (name n ∷ made)
  known_more n made known j low under = go (j == n) refl
    where
      later : (b : Bool) {c : Bool} → c ≡ true → (b || c) ≡ true
      later true e = refl
      later false e = e

      go : (b : Bool) → (j == n) ≡ b → has (new j) (name n ∷ made) ≡ true
      go true e =
          let same : j ≡ n = eqb-true j n e in
          ap (λ x. (x == new j) || has (new j) made) (name_below n (omega (arith, same, under)) ∙ ap new (sym same)) ∙ ap (λ b. b || has (new j) made) (itself (new j))
      go false e = later (name n == new j) (known j (omega (arith, low, eqb-false j n e)) under)

  pub steps_lined : (n : ℕ) (ms : List PlainType) (made : List ℕ) (xs : List Step) → length ms ≡ n → n + length (made_types xs) ≡ m + 1 → Known n made → TypedSteps Fits (map T os) ms xs → Steps Old (v ∷ []) os made (steps_written name os ls n xs [])
  steps_lined n ms made [] e left known typed = tt
  steps_lined n ms made (x ∷ xs) e left known typed =
      let first : TypedStep Fits (map T os) ms x = typed.0 in
      let one : length x.makes ≡ 1 = first.fits.one in
      let more = left_more n x xs one left in (
        refl,
        step_goes_on x first.types first.fits,
        below_made n made (map (number_of name os) x.sources) more.0 known (sources_ranks n ms x.sources first.types e more.0 first.are),
        subst (AllOf (λ y. Old y → has y (v ∷ []) ≡ true)) (sym (made_one x n one)) (result_old n),
        subst (λ k. Steps Old (v ∷ []) os (k ++ made) (steps_written name os ls (n + length x.makes) xs [])) (sym (made_one x n one))
            (subst (λ k. Steps Old (v ∷ []) os (name n ∷ made) (steps_written name os ls (n + k) xs [])) (sym one)
            (steps_lined (n + 1) (ms ++ x.makes) (name n ∷ made) xs (length_joined ms x.makes ∙ omega (arith, e, one)) more.1 (known_more n made known) typed.1)),
      )

  -- where the value of a place stands among those made
  pub values_at : (n k : ℕ) (ms : List PlainType) (xs : List Step) (t : PlainType) → length ms ≡ n → AllOf (λ (x : Step). length x.makes ≡ 1) xs → n ≤ k → at_place k (ms ++ made_types xs) ≡ Some t
      → HasValue (name k) t (list_values (steps_written name os ls n xs []))
  values_at n k ms [] t e ones h f = absurd (omega (arith, place_low k (ms ++ []) t f, length_joined ms [], e, h))
  values_at n k ms (x ∷ xs) t e ones h f =
      let o = one_of_length x.makes ones.0 in
      subst (λ mk. HasValue (name k) t (values_made name n mk ++ list_values (steps_written name os ls (n + length mk) xs []))) (sym o.is)
      (go (n == k) refl o.item (ap (λ mk. at_place k (ms ++ (mk ++ made_types xs))) (sym o.is) ∙ f) (λ ms2 e2 h2 g2. values_at (n + 1) k ms2 xs t e2 ones.1 h2 g2))
    where
      go : (b : Bool) → (n == k) ≡ b → (u : PlainType) → at_place k (ms ++ (u ∷ made_types xs)) ≡ Some t
          → ((ms2 : List PlainType) → length ms2 ≡ n + 1 → n + 1 ≤ k → at_place k (ms2 ++ made_types xs) ≡ Some t → HasValue (name k) t (list_values (steps_written name os ls (n + 1) xs [])))
          → HasValue (name k) t ((name n, u) ∷ list_values (steps_written name os ls (n + 1) xs []))
      go true same u g later = inl (ap name (eqb-true n k same), some_same u t (sym (at_right 0 n ms (u ∷ made_types xs) e) ∙ ap (λ j. at_place j (ms ++ (u ∷ made_types xs))) (spot k (eqb-true n k same)) ∙ g))
        where
          spot : (j : ℕ) → n ≡ j → n + 0 ≡ j
          spot j s = omega (arith, s)
      go false other u g later = inr (later (ms ++ u ∷ []) (length_joined ms (u ∷ []) ∙ omega (arith, e)) (omega (arith, h, eqb-false n k other)) (ap (at_place k) (joined_twice ms (u ∷ []) (made_types xs)) ∙ g))

  -- the operations are formed, and go on to no block

  formed_values : (n : ℕ) (ts : List PlainType) → list_all is_formed_type ts ≡ true → are_formed_values (values_made name n ts) ≡ true
  formed_values n [] e = refl
  formed_values n (t ∷ ts) e = and_true (is_formed_type t) _ (and_first (is_formed_type t) _ e) (formed_values (n + 1) ts (and_second (is_formed_type t) _ e))

  pub all_formed : (n : ℕ) (ms : List PlainType) (xs : List Step) → TypedSteps Fits (map T os) ms xs → AllOf OneFormed (steps_written name os ls n xs [])
  all_formed n ms [] typed = tt
  all_formed n ms (x ∷ xs) typed =
      let first : TypedStep Fits (map T os) ms x = typed.0 in
      ((first.fits.name, formed_values n x.makes first.fits.results_formed, first.fits.props, refl), all_formed (n + length x.makes) (ms ++ x.makes) xs typed.1)

  no_labels : (x : Step) → length x.successors ≡ 0 → labels_at ls x.successors ≡ []
  no_labels x e = ap (labels_at ls) (none_of_length x.successors e)

  pub all_stay : (n : ℕ) (ms : List PlainType) (xs : List Step) → TypedSteps Fits (map T os) ms xs → AllOf (λ p. successors_of p ≡ []) (steps_written name os ls n xs [])
  all_stay n ms [] typed = tt
  all_stay n ms (x ∷ xs) typed =
      let first : TypedStep Fits (map T os) ms x = typed.0 in
      (no_labels x first.fits.ends_here, all_stay (n + length x.makes) (ms ++ x.makes) xs typed.1)

  -- and fit, whatever types agree

  source_has : (S : ℕ → PlainType) → ((x : ℕ) → has x os ≡ true → S x ≡ T x) → (ms : List PlainType) → ((k : ℕ) (t : PlainType) → at_place k ms ≡ Some t → S (name k) ≡ t) → (s : Source) (t : PlainType) → source_type (map T os) ms s ≡ Some t → S (number_of name os s) ≡ t
  source_has S agree ms made (Operand k) t f = agree (get_or os k (name 0)) (get_has k (name 0) os (omega (arith, place_low k (map T os) t f, map_count T os))) ∙ get_type T k (name 0) os t f
  source_has S agree ms made (Made k) t f = made k t f

  sources_have : (S : ℕ → PlainType) → ((x : ℕ) → has x os ≡ true → S x ≡ T x) → (ms : List PlainType) → ((k : ℕ) (t : PlainType) → at_place k ms ≡ Some t → S (name k) ≡ t) → (ss : List Source) (ts : List PlainType)
      → source_types (map T os) ms ss ≡ Some ts → map S (map (number_of name os) ss) ≡ ts
  sources_have S agree ms made [] ts f = some_same [] ts f
  sources_have S agree ms made (s ∷ ss) ts f =
      let p = and_parts (source_type (map T os) ms s) (source_types (map T os) ms ss) ts f in
      ap (λ t. t ∷ map S (map (number_of name os) ss)) (source_has S agree ms made s p.head p.first) ∙ ap (λ l. p.head ∷ l) (sources_have S agree ms made ss p.tail p.rest) ∙ sym p.is

  made_back : (n : ℕ) (ts : List PlainType) → map (λ (w : ℕ × PlainType). w.1) (values_made name n ts) ≡ ts
  made_back n [] = refl
  made_back n (t ∷ ts) = ap (λ l. t ∷ l) (made_back (n + 1) ts)

  abbrev written_shape : Step → List PlainType → List PlainType → ℕ → Shape
  written_shape x operands results successors = record { name = x.name; operands = operands; results = results; props = x.props; attrs = []; successors = successors; regions = 0 }

  pub all_fit : (S : ℕ → PlainType) → ((x : ℕ) → has x os ≡ true → S x ≡ T x) → (n : ℕ) (ms : List PlainType) (xs : List Step) → ((k : ℕ) (t : PlainType) → at_place k (ms ++ made_types xs) ≡ Some t → S (name k) ≡ t)
      → TypedSteps Fits (map T os) ms xs → AllOf (λ p. Fits (of_shape S p)) (steps_written name os ls n xs [])
  all_fit S agree n ms [] whole typed = tt
  all_fit S agree n ms (x ∷ xs) whole typed =
      let first : TypedStep Fits (map T os) ms x = typed.0 in (
        subst Fits
            (sym (
            ap (λ l. written_shape x l (map (λ (w : ℕ × PlainType). w.1) (values_made name n x.makes)) (length (labels_at ls x.successors))) (sources_have S agree ms (λ k t f. whole k t (at_left k ms (x.makes ++ made_types xs) t f)) x.sources first.types first.are)
            ∙ ap (λ l. written_shape x first.types l (length (labels_at ls x.successors))) (made_back n x.makes)
            ∙ ap (λ k. written_shape x first.types x.makes k) (ap (λ l. length l) (no_labels x first.fits.ends_here) ∙ sym first.fits.ends_here)
            ))
            first.fits,
        all_fit S agree (n + length x.makes) (ms ++ x.makes) xs (λ k t f. whole k t (ap (at_place k) (sym (joined_twice ms x.makes (made_types xs))) ∙ f)) typed.1,
      )

  pub all_ones : (ms : List PlainType) (xs : List Step) → TypedSteps Fits (map T os) ms xs → AllOf (λ (x : Step). length x.makes ≡ 1) xs
  all_ones ms [] typed = tt
  all_ones ms (x ∷ xs) typed = let first : TypedStep Fits (map T os) ms x = typed.0 in (first.fits.one, all_ones (ms ++ x.makes) xs typed.1)
