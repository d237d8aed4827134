-- The terms of types, from the events that have their words.
use Rattle.std.proofs.Common.{◌≡◌, ℕ, ◌<◌, ◌^◌, ◌&&◌, Bool, true, false, List, [], ◌∷◌, length, Option, Some, None, refl, ap, ◌∙◌, arith}
use Rattle.std.specs.Prelude.{codes, nat_lt, nat_le, if◌then◌else◌}
use Rattle.std.specs.List.{list_all}
use Rattle.std.proofs.lemmas.Bool.{false≢true}
use Rattle.mlir_lex.proofs.Lengths.{and-left, and-right}
use Rattle.tree_model.specs.declared.type_tree.Dim.{Dim}
use Rattle.tree_model.specs.declared.type_tree.Dim.TheVariants.{Fixed, Dynamic}
use Rattle.plain_tree.specs.Types.{PlainType, PlainTypes, Int, Index, Memref, Func, Ptr, Void, Struct, Array, LlvmFunc, end_of_types, more_types}
use Rattle.rule_model.specs.Forms.{is_number}
use Rattle.rule_model.specs.Formed.{is_dim, is_formed_type, are_formed_types}
use Rattle.text_grammar.specs.declared.places.Place.{Place}
use Rattle.text_grammar.specs.declared.places.Place.TheVariants as places
use Rattle.term_table.specs.declared.node.Form.TheVariants as forms
use Rattle.term_table.specs.Terms.{Term, nothing, node}
use Rattle.text_events.specs.declared.event.Event.{Event}
use Rattle.text_types.specs.declared.action.Action.TheVariants.{Keep, Wrap, Join}
use Rattle.text_types.specs.Spelling.{Spelling}
use Rattle.text_types.specs.Actions.{capped, integer_of, plain_of, size_of, opens_types, opens_items, results_of}
use Rattle.text_types.specs.Items.{Aliases, items, acted, wrapped, joined, place_next}
use Rattle.text_types.specs.Plain.{term_of, terms_of, sizes_before}
use Rattle.event_trees.specs.Wording.{Wording}
use Rattle.printed_words.specs.Words.{PrintedWord}
use Rattle.printed_types.proofs.ApartLemmas.{upper, below}
use Rattle.printed_types.specs.TypeWords.{type_words, types_words, more_words, results_words, dim_words, plain_word, struct_word, array_word, function_word, is_function}
use Rattle.printed_terms.specs.Told.{Says}
use Rattle.printed_terms.proofs.SeenWords.{Seen, one_more}
use Rattle.printed_terms.proofs.NumberLemmas.{decimal_number, decimal_size, width_is}

-- what stands first among events where a type begins: no closing sign, and no parenthesis of results
pub record Begins (es : List Event) : Type 0 where
  pub opens : opens_types (place_next es) ≡ Join forms.Types 0
  pub alone : results_of (place_next es) ≡ Wrap forms.Types 0
  pub listed : opens_items (place_next es) ≡ Join forms.Item 0

begins_by : {es behind : List Event} {e : Event} → es ≡ e ∷ behind → opens_types (Some e.place) ≡ Join forms.Types 0 → results_of (Some e.place) ≡ Wrap forms.Types 0 → opens_items (Some e.place) ≡ Join forms.Item 0 → Begins es
begins_by is o r l = record { opens = ap (λ x. opens_types (place_next x)) is ∙ o; alone = ap (λ x. results_of (place_next x)) is ∙ r; listed = ap (λ x. opens_items (place_next x)) is ∙ l }

module _ (words : Spelling) (wording : Wording) (Is : List Event → Type 0) (aliases : Aliases) where
  -- the first word of what was told
  record First (w : PrintedWord) (ws : List PrintedWord) (es : List Event) : Type 0 where
    name : ℕ
    behind : List Event
    is : es ≡ record { place = w.place; name = name } ∷ behind
    told : Seen words wording Is ws behind

  -- with what it says
  record Said (w : PrintedWord) (ws : List PrintedWord) (es : List Event) : Type 0 where
    name : ℕ
    behind : List Event
    is : es ≡ record { place = w.place; name = name } ∷ behind
    says : Says words wording w.place w.kind w.bytes name
    told : Seen words wording Is ws behind

  first_said : {w : PrintedWord} {ws : List PrintedWord} {es : List Event} → Seen words wording Is (w ∷ ws) es → Said w ws es
  first_said (one_more w name says _ more) = record { name = name; behind = _; is = refl; says = says; told = more }

  first : {w : PrintedWord} {ws : List PrintedWord} {es : List Event} → Seen words wording Is (w ∷ ws) es → First w ws es
  first (one_more w name says _ more) = record { name = name; behind = _; is = refl; told = more }

  -- the events behind those of a type
  pub record Took (rest : List PrintedWord) (es : List Event) (t : Term) : Type 0 where
    pub behind : List Event
    pub told : Seen words wording Is rest behind
    pub terms : items words aliases es ≡ t ∷ items words aliases behind
    pub begins : Begins es

  -- those of types up to a closing sign, at which `nothing` was put
  pub record TookTypes (rest : List PrintedWord) (es : List Event) (ts : PlainTypes) : Type 0 where
    pub behind : List Event
    pub told : Seen words wording Is rest behind
    pub terms : (alias : Term) (more : List Term) → opens_types (place_next behind) ≡ Keep → items words aliases behind ≡ nothing ∷ more → acted alias (opens_types (place_next es)) (items words aliases es) ≡ terms_of ts ∷ more

  pub record TookMore (rest : List PrintedWord) (es : List Event) (ts : PlainTypes) : Type 0 where
    pub behind : List Event
    pub told : Seen words wording Is rest behind
    pub terms : (more : List Term) → items words aliases behind ≡ nothing ∷ more → items words aliases es ≡ terms_of ts ∷ more

  -- those of results behind an arrow
  pub record TookResults (rest : List PrintedWord) (es : List Event) (ts : PlainTypes) : Type 0 where
    pub behind : List Event
    pub told : Seen words wording Is rest behind
    pub terms : (alias : Term) → acted alias (results_of (place_next es)) (items words aliases es) ≡ terms_of ts ∷ items words aliases behind

  -- those of sizes
  record TookDims (rest : List PrintedWord) (es : List Event) (ds : List Dim) : Type 0 where
    behind : List Event
    told : Seen words wording Is rest behind
    terms : (element : Term) (more : List Term) → items words aliases behind ≡ element ∷ more → items words aliases es ≡ sizes_before ds element ∷ more

  -- the name of a type of the llvm dialect, which does this to the terms behind
  record Headed (act : List Term → List Term) (rest : List PrintedWord) (es : List Event) : Type 0 where
    behind : List Event
    told : Seen words wording Is rest behind
    terms : items words aliases es ≡ act (items words aliases behind)
    begins : Begins es

  -- integer types
  int_acted : (width : Option ℕ) (w : ℕ) (alias : Term) (more : List Term) → width ≡ Some w → acted alias (integer_of width) more ≡ node forms.Int w nothing nothing ∷ more
  int_acted width w alias more e = ap (λ o. acted alias (integer_of o) more) e

  index_acted : (width : Option ℕ) (alias : Term) (more : List Term) → width ≡ None → acted alias (integer_of width) more ≡ node forms.Index 0 nothing nothing ∷ more
  index_acted width alias more e = ap (λ o. acted alias (integer_of o) more) e

  pub number_terms : (inside : Bool) (gap : List ℕ) (t : PlainType) (rest : List PrintedWord) (es : List Event) → is_number t ≡ true → is_formed_type t ≡ true → Seen words wording Is (type_words inside places.ElementWord gap t rest) es → Took rest es (term_of t)
  number_terms inside gap (Int width) rest es n f (one_more w name says _ more) =
      record { behind = _; told = more; terms = int_acted (words.width name) width (aliases name) _ (says ∙ width_is width (upper width f)); begins = record { opens = refl; alone = refl; listed = refl } }
  number_terms inside gap Index rest es n f (one_more w name says _ more) = record { behind = _; told = more; terms = index_acted (words.width name) (aliases name) _ says; begins = record { opens = refl; alone = refl; listed = refl } }
  number_terms inside gap _ rest es n f told = absurd (false≢true n)

  -- sizes
  capped_is : (n : ℕ) → n < 2 ^ 63 → capped n ≡ n
  capped_is n h = omega arith

  size_acted : (size : Option ℕ) (n : ℕ) (alias t : Term) (more : List Term) → n < 2 ^ 63 → size ≡ Some n → acted alias (size_of size) (t ∷ more) ≡ node forms.Size n t nothing ∷ more
  size_acted size n alias t more few e = ap (λ o. acted alias (size_of o) (t ∷ more)) e ∙ ap (λ k. node forms.Size k t nothing ∷ more) (capped_is n few)

  dims_terms : (ds : List Dim) (rest : List PrintedWord) (es : List Event) → list_all is_dim ds ≡ true → Seen words wording Is (dim_words ds rest) es → TookDims rest es ds
  dims_terms [] rest es f told = record { behind = es; told = told; terms = λ element more e. e }
  dims_terms (Fixed n ∷ ds) rest es f (one_more w name says _ (one_more v other said _ more)) =
      let few : n < 2 ^ 63 = below n (2 ^ 63) (and-left _ _ f) in
      let inner = dims_terms ds rest _ (and-right (is_dim (Fixed n)) _ f) more in
      record {
        behind = inner.behind;
        told = inner.told;
        terms = λ element terms e. ap (λ ts. acted (aliases name) (size_of (words.size name)) ts) (inner.terms element terms e) ∙ size_acted (words.size name) n (aliases name) (sizes_before ds element) terms few (says ∙ decimal_size n (omega arith));
      }
  dims_terms (Dynamic ∷ ds) rest es f (one_more w name says _ (one_more v other said _ more)) =
      let inner = dims_terms ds rest _ (and-right (is_dim Dynamic) _ f) more in
      record {
        behind = inner.behind;
        told = inner.told;
        terms = λ element terms e. ap (λ ts. acted (aliases name) (size_of (words.size name)) ts) (inner.terms element terms e) ∙ ap (λ o. acted (aliases name) (size_of o) (sizes_before ds element ∷ terms)) says;
      }

  -- names of the llvm dialect
  ptr_terms : (inside : Bool) (gap : List ℕ) (rest : List PrintedWord) (es : List Event) → Seen words wording Is (plain_word inside gap (codes "ptr") ∷ rest) es → Took rest es (node forms.Ptr 0 nothing nothing)
  ptr_terms true gap rest es told =
      let k = first_said told in
      record { behind = k.behind; told = k.told; terms = ap (items words aliases) k.is ∙ ap (λ b. acted (aliases k.name) (plain_of b) (items words aliases k.behind)) k.says; begins = begins_by k.is refl refl refl }
  ptr_terms false gap rest es told =
      let k = first_said told in
      record { behind = k.behind; told = k.told; terms = ap (items words aliases) k.is ∙ ap (λ b. acted (aliases k.name) (plain_of b) (items words aliases k.behind)) k.says; begins = begins_by k.is refl refl refl }

  void_terms : (inside : Bool) (gap : List ℕ) (rest : List PrintedWord) (es : List Event) → Seen words wording Is (plain_word inside gap (codes "void") ∷ rest) es → Took rest es (node forms.Void 0 nothing nothing)
  void_terms true gap rest es told =
      let k = first_said told in
      record { behind = k.behind; told = k.told; terms = ap (items words aliases) k.is ∙ ap (λ b. acted (aliases k.name) (plain_of b) (items words aliases k.behind)) k.says; begins = begins_by k.is refl refl refl }
  void_terms false gap rest es told =
      let k = first_said told in
      record { behind = k.behind; told = k.told; terms = ap (items words aliases) k.is ∙ ap (λ b. acted (aliases k.name) (plain_of b) (items words aliases k.behind)) k.says; begins = begins_by k.is refl refl refl }

  struct_head : (inside : Bool) (gap : List ℕ) (rest : List PrintedWord) (es : List Event) → Seen words wording Is (struct_word inside gap ∷ rest) es → Headed (wrapped forms.Struct 0) rest es
  struct_head true gap rest es (one_more w name says _ more) = record { behind = _; told = more; terms = refl; begins = record { opens = refl; alone = refl; listed = refl } }
  struct_head false gap rest es (one_more w name says _ more) = record { behind = _; told = more; terms = refl; begins = record { opens = refl; alone = refl; listed = refl } }

  array_head : (inside : Bool) (gap : List ℕ) (rest : List PrintedWord) (es : List Event) → Seen words wording Is (array_word inside gap ∷ rest) es → Headed (λ ts. ts) rest es
  array_head true gap rest es (one_more w name says _ more) = record { behind = _; told = more; terms = refl; begins = record { opens = refl; alone = refl; listed = refl } }
  array_head false gap rest es (one_more w name says _ more) = record { behind = _; told = more; terms = refl; begins = record { opens = refl; alone = refl; listed = refl } }

  function_head : (inside : Bool) (gap : List ℕ) (rest : List PrintedWord) (es : List Event) → Seen words wording Is (function_word inside gap ∷ rest) es → Headed (joined forms.LlvmFunc 0) rest es
  function_head true gap rest es (one_more w name says _ more) = record { behind = _; told = more; terms = refl; begins = record { opens = refl; alone = refl; listed = refl } }
  function_head false gap rest es (one_more w name says _ more) = record { behind = _; told = more; terms = refl; begins = record { opens = refl; alone = refl; listed = refl } }

  array_acted : (number n : ℕ) (alias t u : Term) (more : List Term) → n < 2 ^ 63 → number ≡ n → acted alias (Join forms.Array (capped number)) (t ∷ u ∷ more) ≡ node forms.Array n t u ∷ more
  array_acted number n alias t u more few e = ap (λ k. node forms.Array (capped k) t u ∷ more) e ∙ ap (λ k. node forms.Array k t u ∷ more) (capped_is n few)

  -- one of two lists of words
  either : {R : Type 0} (b : Bool) (xs ys : List PrintedWord) (es : List Event) → (b ≡ true → Seen words wording Is xs es → R) → (b ≡ false → Seen words wording Is ys es → R) → Seen words wording Is (if b then xs else ys) es → R
  either true xs ys es f g told = f refl told
  either false xs ys es f g told = g refl told

  -- a closing sign that puts `nothing`
  closed : (place : Place) (es behind : List Event) (name : ℕ) → es ≡ record { place = place; name = name } ∷ behind → ((ts : List Term) → items words aliases (record { place = place; name = name } ∷ behind) ≡ nothing ∷ items words aliases behind)
      → items words aliases es ≡ nothing ∷ items words aliases behind
  closed place es behind name e h = ap (items words aliases) e ∙ h []

  next_is : (place : Place) (es behind : List Event) (name : ℕ) → es ≡ record { place = place; name = name } ∷ behind → opens_types (Some place) ≡ Keep → opens_types (place_next es) ≡ Keep
  next_is place es behind name e h = ap (λ x. opens_types (place_next x)) e ∙ h

  mutual
    pub type_terms : (inside : Bool) (gap : List ℕ) (t : PlainType) (rest : List PrintedWord) (es : List Event) → is_formed_type t ≡ true → Seen words wording Is (type_words inside places.IntegerWord gap t rest) es → Took rest es (term_of t)
    type_terms inside gap (Int width) rest es f (one_more w name says _ more) =
        record { behind = _; told = more; terms = int_acted (words.width name) width (aliases name) _ (says ∙ width_is width (upper width f)); begins = record { opens = refl; alone = refl; listed = refl } }
    type_terms inside gap Index rest es f (one_more w name says _ more) = record { behind = _; told = more; terms = index_acted (words.width name) (aliases name) _ says; begins = record { opens = refl; alone = refl; listed = refl } }
    type_terms inside gap (Memref dims element) rest es f (one_more w name says _ (one_more v other said _ more)) =
        let inner : (is_number element && is_formed_type element) ≡ true = and-right (list_all is_dim dims) _ (and-right (nat_le (length dims) 8) _ f) in
        let d = dims_terms dims _ _ (and-left (list_all is_dim dims) _ (and-right (nat_le (length dims) 8) _ f)) more in
        let e = number_terms inside [] element _ d.behind (and-left (is_number element) _ inner) (and-right (is_number element) _ inner) d.told in
        let c = first e.told in
        record {
          behind = c.behind;
          told = c.told;
          terms = ap (λ ts. acted (aliases name) (Join forms.Memref 0) ts) (d.terms (term_of element) (nothing ∷ items words aliases c.behind) (e.terms ∙ ap (λ ts. term_of element ∷ ts) (ap (items words aliases) c.is)));
          begins = record { opens = refl; alone = refl; listed = refl };
        }
    type_terms inside gap (Func inputs results) rest es f (one_more w name says _ more) =
        let ins = types_terms inside inputs _ _ (and-left _ _ f) more in
        let c = first ins.told in
        let a = first c.told in
        let outs = results_terms inside results rest a.behind (and-right (are_formed_types inputs) _ f) a.told in
        let list : items words aliases ins.behind ≡ nothing ∷ terms_of results ∷ items words aliases outs.behind =
        ap (items words aliases) c.is ∙ ap (λ ts. nothing ∷ ts) (ap (items words aliases) a.is ∙ outs.terms (aliases a.name)) in
        record {
          behind = outs.behind;
          told = outs.told;
          terms = ap (λ ts. acted (aliases name) (Join forms.Func 0) ts) (ins.terms (aliases name) (terms_of results ∷ items words aliases outs.behind) (next_is places.FunctionClose ins.behind c.behind c.name c.is refl) list);
          begins = record { opens = refl; alone = refl; listed = refl };
        }
    type_terms inside gap Ptr rest es f told = ptr_terms inside gap rest es told
    type_terms inside gap Void rest es f told = void_terms inside gap rest es told
    type_terms inside gap (Struct fields) rest es f told =
        let h = struct_head inside gap _ es told in
        let l = first h.told in
        let o = first l.told in
        let ts = types_terms true fields _ o.behind f o.told in
        let c = first ts.told in
        let g = first c.told in
        let list : items words aliases ts.behind ≡ nothing ∷ items words aliases g.behind = ap (items words aliases) c.is ∙ ap (items words aliases) g.is in
        record {
          behind = g.behind;
          told = g.told;
          terms = h.terms ∙ ap (λ x. wrapped forms.Struct 0 (items words aliases x)) l.is ∙ ap (λ x. wrapped forms.Struct 0 (items words aliases x)) o.is
              ∙ ap (wrapped forms.Struct 0) (ts.terms (aliases o.name) (items words aliases g.behind) (next_is places.StructClose ts.behind c.behind c.name c.is refl) list);
          begins = h.begins;
        }
    type_terms inside gap (Array n element) rest es f told =
        let few : n < 2 ^ 32 = below n (2 ^ 32) (and-left _ _ f) in
        let h = array_head inside gap _ es told in
        let l = first h.told in
        let k = first_said l.told in
        let x = first k.told in
        let e = type_terms true (codes " ") element _ x.behind (and-right (nat_lt n (2 ^ 32)) _ f) x.told in
        let c = first e.told in
        let list : items words aliases x.behind ≡ term_of element ∷ nothing ∷ items words aliases c.behind = e.terms ∙ ap (λ ts. term_of element ∷ ts) (ap (items words aliases) c.is) in
        record {
          behind = c.behind;
          told = c.told;
          terms = h.terms ∙ ap (items words aliases) l.is ∙ ap (items words aliases) k.is ∙ ap (λ y. acted (aliases k.name) (Join forms.Array (capped (words.number k.name))) (items words aliases y)) x.is
              ∙ ap (λ ts. acted (aliases k.name) (Join forms.Array (capped (words.number k.name))) ts) list
              ∙ array_acted (words.number k.name) n (aliases k.name) (term_of element) nothing (items words aliases c.behind) (omega arith) (k.says ∙ decimal_number n (omega arith));
          begins = h.begins;
        }
    type_terms inside gap (LlvmFunc output inputs) rest es f told =
        let h = function_head inside gap _ es told in
        let l = first h.told in
        let o = type_terms true [] output _ l.behind (and-left _ _ f) l.told in
        let p = first o.told in
        let ts = types_terms true inputs _ p.behind (and-right (is_formed_type output) _ f) p.told in
        let c = first ts.told in
        let g = first c.told in
        let list : items words aliases ts.behind ≡ nothing ∷ items words aliases g.behind = ap (items words aliases) c.is ∙ ap (items words aliases) g.is in
        record {
          behind = g.behind;
          told = g.told;
          terms = h.terms ∙ ap (λ x. joined forms.LlvmFunc 0 (items words aliases x)) l.is ∙ ap (joined forms.LlvmFunc 0) (o.terms ∙ ap (λ x. term_of output ∷ items words aliases x) p.is
              ∙ ap (λ x. term_of output ∷ x) (ts.terms (aliases p.name) (items words aliases g.behind) (next_is places.ParametersClose ts.behind c.behind c.name c.is refl) list));
          begins = h.begins;
        }

    pub types_terms : (inside : Bool) (ts : PlainTypes) (rest : List PrintedWord) (es : List Event) → are_formed_types ts ≡ true → Seen words wording Is (types_words inside ts rest) es → TookTypes rest es ts
    types_terms inside end_of_types rest es f told = record { behind = es; told = told; terms = λ alias more keep e. ap (λ a. acted alias a (items words aliases es)) keep ∙ e }
    types_terms inside (more_types t ts) rest es f told =
        let k = type_terms inside [] t _ es (and-left _ _ f) told in
        let m = more_terms inside ts rest k.behind (and-right (is_formed_type t) _ f) k.told in
        record {
          behind = m.behind;
          told = m.told;
          terms = λ alias more keep e. ap (λ a. acted alias a (items words aliases es)) k.begins.opens ∙ ap (λ x. acted alias (Join forms.Types 0) x) (k.terms ∙ ap (λ x. term_of t ∷ x) (m.terms more e));
        }

    pub more_terms : (inside : Bool) (ts : PlainTypes) (rest : List PrintedWord) (es : List Event) → are_formed_types ts ≡ true → Seen words wording Is (more_words inside ts rest) es → TookMore rest es ts
    more_terms inside end_of_types rest es f told = record { behind = es; told = told; terms = λ more e. e }
    more_terms inside (more_types t ts) rest es f (one_more w name says _ told) =
        let k = type_terms inside (codes " ") t _ _ (and-left _ _ f) told in
        let m = more_terms inside ts rest k.behind (and-right (is_formed_type t) _ f) k.told in
        record { behind = m.behind; told = m.told; terms = λ more e. ap (λ x. acted (aliases name) (Join forms.Types 0) x) (k.terms ∙ ap (λ x. term_of t ∷ x) (m.terms more e)) }

    pub results_terms : (inside : Bool) (ts : PlainTypes) (rest : List PrintedWord) (es : List Event) → are_formed_types ts ≡ true → Seen words wording Is (results_words inside ts rest) es → TookResults rest es ts
    results_terms inside end_of_types rest es f (one_more w name says _ (one_more v other said _ more)) = record { behind = _; told = more; terms = λ alias. refl }
    results_terms inside (more_types t end_of_types) rest es f told =
        either (is_function t) _ _ es
        (λ _ told. let o = first told in
        let k = type_terms inside [] t _ o.behind (and-left _ _ f) o.told in
        let c = first k.told in
        record {
          behind = c.behind;
          told = c.told;
          terms = λ alias. ap (λ x. acted alias (results_of (place_next x)) (items words aliases x)) o.is ∙ ap (λ a. acted (aliases o.name) a (items words aliases o.behind)) k.begins.opens
              ∙ ap (λ x. acted (aliases o.name) (Join forms.Types 0) x) (k.terms ∙ ap (λ x. term_of t ∷ items words aliases x) c.is);
        })
        (λ _ told. let k = type_terms inside (codes " ") t rest es (and-left _ _ f) told in
        record { behind = k.behind; told = k.told; terms = λ alias. ap (λ a. acted alias a (items words aliases es)) k.begins.alone ∙ ap (λ x. acted alias (Wrap forms.Types 0) x) k.terms })
        told
    results_terms inside (more_types t (more_types u us)) rest es f told =
        let o = first told in
        let k = type_terms inside [] t _ o.behind (and-left _ _ f) o.told in
        let m = more_terms inside (more_types u us) _ k.behind (and-right (is_formed_type t) _ f) k.told in
        let c = first m.told in
        let list : items words aliases k.behind ≡ terms_of (more_types u us) ∷ items words aliases c.behind = m.terms (items words aliases c.behind) (ap (items words aliases) c.is) in
        record {
          behind = c.behind;
          told = c.told;
          terms = λ alias. ap (λ x. acted alias (results_of (place_next x)) (items words aliases x)) o.is ∙ ap (λ a. acted (aliases o.name) a (items words aliases o.behind)) k.begins.opens
              ∙ ap (λ x. acted (aliases o.name) (Join forms.Types 0) x) (k.terms ∙ ap (λ x. term_of t ∷ x) list);
        }
