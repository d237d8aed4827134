-- The terms of attributes, from the events that have their words.
use Rattle.std.proofs.Common.{◌≡◌, ℕ, zero, suc, ◌+◌, ◌*◌, ◌<◌, ◌≤◌, ◌^◌, ◌-◌, ◌&&◌, ◌||◌, not, Bool, true, false, List, [], ◌∷◌, ◌++◌, drop, refl, sym, ap, ◌∙◌, subst, arith}
use Rattle.std.specs.Prelude.{codes, ℤ, pos, negsuc, nat_lt, if◌then◌else◌}
use Rattle.std.specs.List.{list_all}
use Rattle.std.specs.Str.{bytes_eq}
use Rattle.std.proofs.Math.Nat.{pow-suc}
use Rattle.std.proofs.Math.Pow.{pow_mono}
use Rattle.std.proofs.lemmas.Int.{ints}
use Rattle.std.proofs.lemmas.Bool.{false≢true}
use Rattle.std.proofs.lemmas.Bool.Decides.{nat_tests}
use Rattle.mlir_lex.specs.Bytes.{is_bare}
use Rattle.mlir_lex.proofs.Lengths.{and-left, and-right, eqb-is}
use Rattle.tree_model.specs.declared.attr_tree.AttrTree.{AttrTree}
use Rattle.tree_model.specs.declared.attr_tree.AttrTree as attr
use Rattle.plain_tree.specs.Types.{PlainType, Int, Index, Memref, Func, Ptr, Void, Struct, Array, LlvmFunc, type_tree}
use Rattle.plain_tree.specs.Attrs.{PlainAttr, PlainAttrs, PlainDict, Unit, Number, Text, Attrs, Dict, OfType, Symbol, Numbers, Dialect, end_of_attrs, more_attrs, end_of_entries, more_entries, attr_tree, attr_trees, dict_tree}
use Rattle.rule_model.specs.Forms.{is_number}
use Rattle.rule_model.specs.Formed.{is_formed_type, is_number_of, is_signed}
use Rattle.tree_text.specs.AttrText.{bit_text}
use Rattle.text_grammar.specs.declared.kinds.Kind.TheVariants as kinds
use Rattle.text_grammar.specs.declared.places.Place.TheVariants as places
use Rattle.term_table.specs.declared.node.Form.TheVariants as forms
use Rattle.term_table.specs.Terms.{Term, nothing, node}
use Rattle.text_events.specs.declared.event.Event.{Event}
use Rattle.text_events.specs.Spelling.{core}
use Rattle.text_types.specs.declared.action.Action.TheVariants.{Keep, Join, Put}
use Rattle.text_types.specs.Spelling.{Spelling}
use Rattle.text_types.specs.Actions.{opens_items, value_of, dialect_of, width_of}
use Rattle.text_types.specs.Items.{Aliases, items, acted, wrapped, joined, place_next}
use Rattle.text_types.specs.Plain.{term_of}
use Rattle.text_types.proofs.PlainLaws.{type_is}
use Rattle.event_trees.specs.Wording.{Wording}
use Rattle.event_trees.specs.Dictionaries.{before, insert, sorted}
use Rattle.event_trees.specs.Attrs.{attr_of, items_of, entries_of, numbers_of, words_of, signed, negative, bits_of, integer, integer_type, truth}
use Rattle.printed_words.specs.Words.{PrintedWord, word}
use Rattle.printed_types.specs.TypeWords.{type_words, is_byte_width}
use Rattle.printed_types.proofs.ApartLemmas.{upper, lower, below}
use Rattle.printed_attrs.specs.AttrWords.{attr_words, items_words, more_items, dict_words, more_dict, signed_words, numbers_words, more_numbers, dialect_words, more_dialect, valued, is_unit, is_bit}
use Rattle.printed_attrs.specs.Readable.{is_readable, are_readable, is_readable_dict, are_bytes, is_dialect_name}
use Rattle.printed_attrs.proofs.ReadLemmas.{number_type, or_other}
use Rattle.printed_attrs.proofs.ApartLemmas.{byte_width, byte_some}
use Rattle.printed_terms.specs.Told.{Says, spells}
use Rattle.printed_terms.proofs.SeenWords.{Seen, no_words, one_more}
use Rattle.printed_terms.specs.Ordered.{is_next, is_ordered, are_ordered, is_ordered_dict, first_place, IsQuiet}
use Rattle.printed_terms.proofs.NumberLemmas.{decimal_number, width_is}
use Rattle.printed_terms.proofs.SpellLemmas.{string_spelled, bare_spelled, name_spelled, symbol_spelled, dialect_spelled}
use Rattle.printed_terms.proofs.TypeTerms.{type_terms, number_terms}

-- Numbers

half : (bits n : ℕ) → 0 < bits → 2 * n < 2 ^ bits → n < 2 ^ (bits - 1)
half zero n some h = absurd (omega arith)
half (suc b) n some h = let e : 2 ^ suc b ≡ 2 ^ b * 2 = pow-suc 2 b in let m : suc b - 1 ≡ b = omega arith in rw m (omega arith)

signed_is : (bits n : ℕ) → n < 2 ^ (bits - 1) → signed bits n ≡ pos n
signed_is bits n h = let e : nat_lt n (2 ^ (bits - 1)) ≡ true = grind (arith, nat_tests) in rw e refl

negative_is : (n : ℕ) → negative (suc n) ≡ negsuc n
negative_is n = omega (arith, ints)

small_pow : (w : ℕ) → w ≤ 64 → 2 ^ w ≤ 18446744073709551616
small_pow w h = let e : 2 ^ w ≤ 2 ^ 64 = pow_mono h in e

-- a number below 2^64 in the range of so many bits
record InRange (bits : ℕ) (v : ℤ) : Type 0 where
  small : (n : ℕ) → v ≡ pos n → n < 2 ^ 64
  front : (n : ℕ) → v ≡ pos n → signed bits n ≡ pos n
  least : (n : ℕ) → v ≡ negsuc n → suc n < 2 ^ 64

same_pos : (m n : ℕ) → pos m ≡ pos n → m ≡ n
same_pos m n e = cc

same_neg : (m n : ℕ) → negsuc m ≡ negsuc n → m ≡ n
same_neg m n e = cc

apart : (m n : ℕ) → pos m ≡ negsuc n → ⊥
apart m n e = cc

other_way : (m n : ℕ) → negsuc m ≡ pos n → ⊥
other_way m n e = cc

in_range : (bits : ℕ) (v : ℤ) → 0 < bits → bits ≤ 64 → is_signed bits v ≡ true → InRange bits v
in_range bits (pos k) some few h =
    let p : 2 ^ bits ≤ 18446744073709551616 = small_pow bits few in
    let q : 2 * k < 2 ^ bits = below (2 * k) (2 ^ bits) h in
    record {
      small = λ n e. let s : k ≡ n = same_pos k n e in omega arith;
      front = λ n e. let s : k ≡ n = same_pos k n e in rw (← s) (signed_is bits k (half bits k some q));
      least = λ n e. absurd (apart k n e);
    }
in_range bits (negsuc k) some few h =
    let p : 2 ^ bits ≤ 18446744073709551616 = small_pow bits few in
    let q : 2 * (k + 1) ≤ 2 ^ bits = grind (arith, nat_tests) in
    record { small = λ n e. absurd (other_way k n e); front = λ n e. absurd (other_way k n e); least = λ n e. let s : k ≡ n = same_neg k n e in omega arith }

abbrev term_bits : PlainType → ℕ
term_bits (Int width) = width
term_bits _ = 64

bits_are : (t : PlainType) → is_number t ≡ true → bits_of (term_of t) ≡ term_bits t
bits_are (Int width) h = refl
bits_are Index h = refl
bits_are _ h = absurd (false≢true h)

integer_is : (t : PlainType) → is_number t ≡ true → integer_type (term_of t) ≡ t
integer_is (Int width) h = refl
integer_is Index h = refl
integer_is _ h = absurd (false≢true h)

range_of : (t : PlainType) (v : ℤ) → is_formed_type t ≡ true → is_number_of t v ≡ true → InRange (term_bits t) v
range_of (Int width) v f h = in_range width v (lower width f) (upper width f) h
range_of Index v f h = in_range 64 v (omega arith) (omega arith) h
range_of _ v f h = absurd (false≢true h)

-- `true` and `false`
truth_one : (v : ℤ) (spelled : List ℕ) → is_signed 1 v ≡ true → spelled ≡ spells kinds.WordBool (bit_text v) → truth (bytes_eq spelled (codes "true")) ≡ attr.Int v (type_tree (Int 1))
unfolding core
truth_one (pos zero) spelled h e = ap (λ s. truth (bytes_eq s (codes "true"))) e
truth_one (pos (suc n)) spelled h e = let q : 2 * suc n < 2 = below (2 * suc n) 2 h in absurd (omega arith)
truth_one (negsuc zero) spelled h e = ap (λ s. truth (bytes_eq s (codes "true"))) e
truth_one (negsuc (suc n)) spelled h e = let q : 2 * (suc n + 1) ≤ 2 = grind (arith, nat_tests) in absurd (omega arith)

truth_is : (v : ℤ) (t : PlainType) (spelled : List ℕ) → is_bit t ≡ true → is_number_of t v ≡ true → spelled ≡ spells kinds.WordBool (bit_text v) → truth (bytes_eq spelled (codes "true")) ≡ attr.Int v (type_tree t)
truth_is v (Int width) spelled b h e =
    let w : width ≡ 1 = eqb-is width 1 b in
    truth_one v spelled (subst (λ (x : ℕ). is_signed x v ≡ true) w h) e ∙ ap (λ x. attr.Int v (type_tree (Int x))) (sym w)
truth_is v _ spelled b h e = absurd (false≢true b)

-- Dictionaries
insert_first : (name : List ℕ) (a : PlainAttr) (d : PlainDict) → is_next name d ≡ true → insert (name, attr_tree a) (dict_tree d) ≡ (name, attr_tree a) ∷ dict_tree d
insert_first name a end_of_entries h = refl
insert_first name a (more_entries other b d) h = ap (λ t. if t then (other, attr_tree b) ∷ insert (name, attr_tree a) (dict_tree d) else (name, attr_tree a) ∷ (other, attr_tree b) ∷ dict_tree d) (not_is (before other name) h)
  where
    not_is : (t : Bool) → not t ≡ true → t ≡ false
    not_is true h = sym h
    not_is false h = refl

pub sorted_is : (d : PlainDict) → is_ordered_dict d ≡ true → sorted (dict_tree d) ≡ dict_tree d
sorted_is end_of_entries h = refl
sorted_is (more_entries name a d) h = ap (insert (name, attr_tree a)) (sorted_is d (and-right (is_ordered a) _ (and-right (is_next name d) _ h))) ∙ insert_first name a d (and-left _ _ h)

module _ (words : Spelling) (wording : Wording) (Is : List Event → Type 0) (aliases : Aliases) where
  record Said (w : PrintedWord) (ws : List PrintedWord) (es : List Event) : Type 0 where
    name : ℕ
    behind : List Event
    is : es ≡ record { place = w.place; name = name } ∷ behind
    says : Says words wording w.place w.kind w.bytes name
    told : Seen words wording Is ws behind

  first : {w : PrintedWord} {ws : List PrintedWord} {es : List Event} → Seen words wording Is (w ∷ ws) es → Said w ws es
  first (one_more w name says _ more) = record { name = name; behind = _; is = refl; says = says; told = more }

  next_place : {ws : List PrintedWord} {es : List Event} → Seen words wording Is ws es → place_next es ≡ first_place ws
  next_place (no_words _) = refl
  next_place (one_more w name says _ more) = refl

  pub record TookAttr (rest : List PrintedWord) (es : List Event) (a : PlainAttr) : Type 0 where
    pub behind : List Event
    pub told : Seen words wording Is rest behind
    pub term : Term
    pub terms : items words aliases es ≡ term ∷ items words aliases behind
    pub is : attr_of wording term ≡ attr_tree a
    pub begins : opens_items (place_next es) ≡ Join forms.Item 0

  -- a list up to a closing sign, at which `nothing` was put
  pub record TookList {X : Type 0} (of : Term → X) (rest : List PrintedWord) (es : List Event) (x : X) : Type 0 where
    pub behind : List Event
    pub told : Seen words wording Is rest behind
    pub term : Term
    pub terms : (more : List Term) → items words aliases behind ≡ nothing ∷ more → items words aliases es ≡ term ∷ more
    pub is : of term ≡ x

  pub record TookItems (rest : List PrintedWord) (es : List Event) (attrs : PlainAttrs) : Type 0 where
    pub behind : List Event
    pub told : Seen words wording Is rest behind
    pub term : Term
    pub terms : (alias : Term) (more : List Term) → opens_items (place_next behind) ≡ Keep → items words aliases behind ≡ nothing ∷ more → acted alias (opens_items (place_next es)) (items words aliases es) ≡ term ∷ more
    pub is : items_of wording term ≡ attr_trees attrs

  -- one of two lists of words
  either : {R : Type 0} (b : Bool) (xs ys : List PrintedWord) (es : List Event) → (b ≡ true → Seen words wording Is xs es → R) → (b ≡ false → Seen words wording Is ys es → R) → Seen words wording Is (if b then xs else ys) es → R
  either true xs ys es f g told = f refl told
  either false xs ys es f g told = g refl told

  -- integers
  wide_terms : (gap : List ℕ) (v : ℤ) (t : PlainType) (rest : List PrintedWord) (es : List Event) → is_formed_type t ≡ true → is_number_of t v ≡ true
      → Seen words wording Is (signed_words gap places.IntegerMinus places.IntegerNumber v (word (codes " ") places.NumberColon kinds.Colon (codes ":") ∷ type_words false places.ElementWord (codes " ") t rest)) es → TookAttr rest es (Number v t)
  wide_terms gap (pos n) t rest es f h told =
      let number : is_number t ≡ true = number_type t (pos n) h in
      let range = range_of t (pos n) f h in
      let k = first told in
      let c = first k.told in
      let ty = number_terms words wording Is aliases false (codes " ") t rest c.behind number f c.told in
      let own : wording.number k.name ≡ n = k.says ∙ decimal_number n (range.small n refl) in
      record {
        behind = ty.behind;
        told = ty.told;
        term = node forms.Number k.name (term_of t) nothing;
        terms = ap (items words aliases) k.is ∙ ap (λ x. items words aliases (record { place = places.IntegerNumber; name = k.name } ∷ x)) c.is ∙ ap (wrapped forms.Number k.name) ty.terms;
        is = ap (λ m. integer m (term_of t)) own ∙ ap (λ b. attr.Int (signed b n) (type_tree (integer_type (term_of t)))) (bits_are t number) ∙ ap (λ z. attr.Int z (type_tree (integer_type (term_of t)))) (range.front n refl)
            ∙ ap (λ u. attr.Int (pos n) (type_tree u)) (integer_is t number);
        begins = ap (λ x. opens_items (place_next x)) k.is;
      }
  wide_terms gap (negsuc n) t rest es f h told =
      let number : is_number t ≡ true = number_type t (negsuc n) h in
      let range = range_of t (negsuc n) f h in
      let m = first told in
      let k = first m.told in
      let c = first k.told in
      let ty = number_terms words wording Is aliases false (codes " ") t rest c.behind number f c.told in
      let own : wording.number k.name ≡ suc n = k.says ∙ decimal_number (suc n) (range.least n refl) in
      record {
        behind = ty.behind;
        told = ty.told;
        term = node forms.Minus 0 (node forms.Number k.name (term_of t) nothing) nothing;
        terms = ap (items words aliases) m.is ∙ ap (λ x. wrapped forms.Minus 0 (items words aliases x)) k.is ∙ ap (λ x. wrapped forms.Minus 0 (items words aliases (record { place = places.IntegerNumber; name = k.name } ∷ x))) c.is
            ∙ ap (λ x. wrapped forms.Minus 0 (wrapped forms.Number k.name x)) ty.terms;
        is = ap (λ x. attr.Int (negative x) (type_tree (integer_type (term_of t)))) own ∙ ap (λ z. attr.Int z (type_tree (integer_type (term_of t)))) (negative_is n) ∙ ap (λ u. attr.Int (negsuc n) (type_tree u)) (integer_is t number);
        begins = ap (λ x. opens_items (place_next x)) m.is;
      }

  -- the numbers of an array
  listed_terms : (bits : ℕ) (gap : List ℕ) (v : ℤ) (vs : List ℤ) (more rest : List PrintedWord) (es : List Event) → 0 < bits → bits ≤ 64 → is_signed bits v ≡ true
      → ((behind : List Event) → Seen words wording Is more behind → TookList (numbers_of wording bits) rest behind vs) → Seen words wording Is (signed_words gap places.ListedMinus places.ListedNumber v more) es → TookList (numbers_of wording bits) rest es (v ∷ vs)
  listed_terms bits gap (pos n) vs more rest es some few h others told =
      let range = in_range bits (pos n) some few h in
      let k = first told in
      let o = others k.behind k.told in
      let own : wording.number k.name ≡ n = k.says ∙ decimal_number n (range.small n refl) in
      record {
        behind = o.behind;
        told = o.told;
        term = node forms.Listed k.name o.term nothing;
        terms = λ more e. ap (items words aliases) k.is ∙ ap (wrapped forms.Listed k.name) (o.terms more e);
        is = ap (λ m. signed bits m ∷ numbers_of wording bits o.term) own ∙ ap (λ z. z ∷ numbers_of wording bits o.term) (range.front n refl) ∙ ap (λ zs. pos n ∷ zs) o.is;
      }
  listed_terms bits gap (negsuc n) vs more rest es some few h others told =
      let range = in_range bits (negsuc n) some few h in
      let m = first told in
      let k = first m.told in
      let o = others k.behind k.told in
      let own : wording.number k.name ≡ suc n = k.says ∙ decimal_number (suc n) (range.least n refl) in
      record {
        behind = o.behind;
        told = o.told;
        term = node forms.ListedMinus 0 (node forms.Listed k.name o.term nothing) nothing;
        terms = λ more e. ap (items words aliases) m.is ∙ ap (λ x. wrapped forms.ListedMinus 0 (items words aliases x)) k.is ∙ ap (λ x. wrapped forms.ListedMinus 0 (wrapped forms.Listed k.name x)) (o.terms more e);
        is = ap (λ x. negative x ∷ numbers_of wording bits o.term) own ∙ ap (λ z. z ∷ numbers_of wording bits o.term) (negative_is n) ∙ ap (λ zs. negsuc n ∷ zs) o.is;
      }

  more_listed : (bits : ℕ) (vs : List ℤ) (rest : List PrintedWord) (es : List Event) → 0 < bits → bits ≤ 64 → list_all (is_signed bits) vs ≡ true → Seen words wording Is (more_numbers vs rest) es → TookList (numbers_of wording bits) rest es vs
  more_listed bits [] rest es some few h told = record { behind = es; told = told; term = nothing; terms = λ more e. e; is = refl }
  more_listed bits (v ∷ vs) rest es some few h told =
      let c = first told in
      let o = listed_terms bits (codes " ") v vs (more_numbers vs rest) rest c.behind some few (and-left _ _ h) (λ behind t. more_listed bits vs rest behind some few (and-right (is_signed bits v) _ h) t) c.told in
      record { behind = o.behind; told = o.told; term = o.term; terms = λ more e. ap (items words aliases) c.is ∙ o.terms more e; is = o.is }

  numbers_terms : (bits : ℕ) (vs : List ℤ) (rest : List PrintedWord) (es : List Event) → 0 < bits → bits ≤ 64 → list_all (is_signed bits) vs ≡ true → Seen words wording Is (numbers_words vs rest) es → TookList (numbers_of wording bits) rest es vs
  numbers_terms bits [] rest es some few h told = record { behind = es; told = told; term = nothing; terms = λ more e. e; is = refl }
  numbers_terms bits (v ∷ vs) rest es some few h told =
      let c = first told in
      let o = listed_terms bits (codes " ") v vs (more_numbers vs rest) rest c.behind some few (and-left _ _ h) (λ behind t. more_listed bits vs rest behind some few (and-right (is_signed bits v) _ h) t) c.told in
      record { behind = o.behind; told = o.told; term = o.term; terms = λ more e. ap (items words aliases) c.is ∙ o.terms more e; is = o.is }

  -- the words of a dialect attribute
  more_dialect_terms : (names : List (List ℕ)) (rest : List PrintedWord) (es : List Event) → list_all is_bare names ≡ true → Seen words wording Is (more_dialect names rest) es → TookList (words_of wording) rest es names
  more_dialect_terms [] rest es h told = record { behind = es; told = told; term = nothing; terms = λ more e. e; is = refl }
  more_dialect_terms (n ∷ names) rest es h told =
      let c = first told in
      let k = first c.told in
      let o = more_dialect_terms names rest k.behind (and-right (is_bare n) _ h) k.told in
      record {
        behind = o.behind;
        told = o.told;
        term = node forms.DialectWord k.name o.term nothing;
        terms = λ more e. ap (items words aliases) c.is ∙ ap (items words aliases) k.is ∙ ap (wrapped forms.DialectWord k.name) (o.terms more e);
        is = ap (λ bs. bs ∷ words_of wording o.term) (k.says ∙ bare_spelled n (and-left _ _ h)) ∙ ap (λ ns. n ∷ ns) o.is;
      }

  dialect_terms : (gap : List ℕ) (name : List ℕ) (names : List (List ℕ)) (rest : List PrintedWord) (es : List Event) → is_dialect_name name ≡ true → list_all is_bare names ≡ true → IsQuiet rest
      → Seen words wording Is (word gap places.DialectName kinds.HashDotted (codes "#" ++ name) ∷ dialect_words names rest) es → TookAttr rest es (Dialect name names)
  dialect_terms gap name [] rest es f h quiet told =
      let k = first told in
      let alone : dialect_of k.name (place_next k.behind) ≡ Put forms.Dialect k.name = ap (dialect_of k.name) (next_place k.told) ∙ quiet.dialect k.name in
      record {
        behind = k.behind;
        told = k.told;
        term = node forms.Dialect k.name nothing nothing;
        terms = ap (items words aliases) k.is ∙ ap (λ a. acted (aliases k.name) a (items words aliases k.behind)) alone;
        is = ap (λ bs. attr.Dialect (drop 1 bs) []) k.says ∙ ap (λ bs. attr.Dialect bs []) (dialect_spelled name f);
        begins = ap (λ x. opens_items (place_next x)) k.is;
      }
  dialect_terms gap name (n ∷ names) rest es f h quiet told =
      let k = first told in
      let l = first k.told in
      let m = first l.told in
      let o = more_dialect_terms names _ m.behind (and-right (is_bare n) _ h) m.told in
      let g = first o.told in
      let list : items words aliases m.behind ≡ o.term ∷ items words aliases g.behind = o.terms (items words aliases g.behind) (ap (items words aliases) g.is) in
      record {
        behind = g.behind;
        told = g.told;
        term = node forms.Dialect k.name (node forms.DialectWord m.name o.term nothing) nothing;
        terms = ap (items words aliases) k.is ∙ ap (λ x. items words aliases (record { place = places.DialectName; name = k.name } ∷ x)) l.is ∙ ap (λ x. wrapped forms.Dialect k.name (items words aliases x)) m.is
            ∙ ap (λ x. wrapped forms.Dialect k.name (wrapped forms.DialectWord m.name x)) list;
        is = ap (λ bs. attr.Dialect (drop 1 bs) (wording.spelled m.name ∷ words_of wording o.term)) k.says ∙ ap (λ bs. attr.Dialect bs (wording.spelled m.name ∷ words_of wording o.term)) (dialect_spelled name f)
            ∙ ap (λ bs. attr.Dialect name (bs ∷ words_of wording o.term)) (m.says ∙ bare_spelled n (and-left _ _ h)) ∙ ap (λ ns. attr.Dialect name (n ∷ ns)) o.is;
        begins = ap (λ x. opens_items (place_next x)) k.is;
      }

  -- a type
  type_attr : (gap : List ℕ) (t : PlainType) (rest : List PrintedWord) (es : List Event) → is_formed_type t ≡ true → Seen words wording Is (type_words false places.IntegerWord gap t rest) es → TookAttr rest es (OfType t)
  type_attr gap t rest es f told =
      let k = type_terms words wording Is aliases false gap t rest es f told in
      record { behind = k.behind; told = k.told; term = term_of t; terms = k.terms; is = of_type t; begins = k.begins.listed }
    where
      of_type : (u : PlainType) → attr_of wording (term_of u) ≡ attr.OfType (type_tree u)
      of_type (Int width) = refl
      of_type Index = refl
      of_type (Memref dims element) = ap (λ v. attr.OfType (type_tree v)) (type_is (Memref dims element))
      of_type (Func inputs results) = ap (λ v. attr.OfType (type_tree v)) (type_is (Func inputs results))
      of_type Ptr = refl
      of_type Void = refl
      of_type (Struct fields) = ap (λ v. attr.OfType (type_tree v)) (type_is (Struct fields))
      of_type (Array n element) = ap (λ v. attr.OfType (type_tree v)) (type_is (Array n element))
      of_type (LlvmFunc output inputs) = ap (λ v. attr.OfType (type_tree v)) (type_is (LlvmFunc output inputs))

  -- words behind entries and members
  more_dict_quiet : (d : PlainDict) (rest : List PrintedWord) → IsQuiet rest → IsQuiet (more_dict d rest)
  more_dict_quiet end_of_entries rest q = q
  more_dict_quiet (more_entries name a d) rest q = record { dialect = λ n. refl; value = refl }

  more_items_quiet : (attrs : PlainAttrs) (rest : List PrintedWord) → IsQuiet rest → IsQuiet (more_items attrs rest)
  more_items_quiet end_of_attrs rest q = q
  more_items_quiet (more_attrs a attrs) rest q = record { dialect = λ n. refl; value = refl }

  -- an entry behind its name
  entry_terms : (unit : Bool) (name : List ℕ) (a : PlainAttr) (d : PlainDict) (n : ℕ) (rest value more : List PrintedWord) (es : List Event) → wording.spelled n ≡ name → is_unit a ≡ unit → IsQuiet more
      → ((behind : List Event) → Seen words wording Is more behind → TookList (entries_of wording) rest behind (dict_tree d))
      → (unit ≡ false → (behind : List Event) → Seen words wording Is value behind → TookAttr more behind a)
      → Seen words wording Is (valued unit more value) es → TookList (entries_of wording) rest (record { place = places.EntryName; name = n } ∷ es) ((name, attr_tree a) ∷ dict_tree d)
  entry_terms true name Unit d n rest value more es own u quiet others inner told =
      let o = others es told in
      record {
        behind = o.behind;
        told = o.told;
        term = node forms.Entry n (node forms.Unit 0 nothing nothing) o.term;
        terms = λ more e. ap (λ x. acted (aliases n) (Join forms.Entry n) (acted (aliases n) x (items words aliases es))) (ap value_of (next_place told) ∙ quiet.value) ∙ ap (λ x. joined forms.Entry n (node forms.Unit 0 nothing nothing ∷ x)) (o.terms more e);
        is = ap (λ bs. (bs, attr.Unit) ∷ entries_of wording o.term) own ∙ ap (λ es. (name, attr.Unit) ∷ es) o.is;
      }
  entry_terms true name (Number v t) d n rest value more es own u quiet others inner told = absurd (false≢true u)
  entry_terms true name (Text b) d n rest value more es own u quiet others inner told = absurd (false≢true u)
  entry_terms true name (Attrs b) d n rest value more es own u quiet others inner told = absurd (false≢true u)
  entry_terms true name (Dict b) d n rest value more es own u quiet others inner told = absurd (false≢true u)
  entry_terms true name (OfType b) d n rest value more es own u quiet others inner told = absurd (false≢true u)
  entry_terms true name (Symbol b) d n rest value more es own u quiet others inner told = absurd (false≢true u)
  entry_terms true name (Numbers b c) d n rest value more es own u quiet others inner told = absurd (false≢true u)
  entry_terms true name (Dialect b c) d n rest value more es own u quiet others inner told = absurd (false≢true u)
  entry_terms false name a d n rest value more es own u quiet others inner told =
      let e = first told in
      let k = inner refl e.behind e.told in
      let o = others k.behind k.told in
      record {
        behind = o.behind;
        told = o.told;
        term = node forms.Entry n k.term o.term;
        terms = λ more h. ap (λ x. items words aliases (record { place = places.EntryName; name = n } ∷ x)) e.is ∙ ap (joined forms.Entry n) (k.terms ∙ ap (λ x. k.term ∷ x) (o.terms more h));
        is = ap (λ bs. (bs, attr_of wording k.term) ∷ entries_of wording o.term) own ∙ ap (λ t. (name, t) ∷ entries_of wording o.term) k.is ∙ ap (λ es. (name, attr_tree a) ∷ es) o.is;
      }

  mutual
    pub attr_terms : (gap : List ℕ) (a : PlainAttr) (rest : List PrintedWord) (es : List Event) → is_readable a ≡ true → is_ordered a ≡ true → IsQuiet rest → Seen words wording Is (attr_words gap a rest) es → TookAttr rest es a
    attr_terms gap Unit rest es r o quiet told = absurd (false≢true r)
    attr_terms gap (Number v t) rest es r o quiet told =
        let formed : is_formed_type t ≡ true = and-left _ _ r in
        let of_type : is_number_of t v ≡ true = and-right (is_formed_type t) _ r in
        either (is_bit t) _ _ es
        (λ bit told. let k = first told in
        record { behind = k.behind; told = k.told; term = node forms.Bool k.name nothing nothing; terms = ap (items words aliases) k.is; is = truth_is v t (wording.spelled k.name) bit of_type k.says; begins = ap (λ x. opens_items (place_next x)) k.is })
        (λ _ told. wide_terms gap v t rest es formed of_type told)
        told
    attr_terms gap (Text bytes) rest es r o quiet told =
        let k = first told in
        record { behind = k.behind; told = k.told; term = node forms.Text k.name nothing nothing; terms = ap (items words aliases) k.is; is = ap attr.Str (k.says ∙ string_spelled bytes r); begins = ap (λ x. opens_items (place_next x)) k.is }
    attr_terms gap (Attrs attrs) rest es r o quiet told =
        let k = first told in
        let l = items_terms attrs _ k.behind r o (record { dialect = λ n. refl; value = refl }) k.told in
        let c = first l.told in
        record {
          behind = c.behind;
          told = c.told;
          term = node forms.Items 0 l.term nothing;
          terms = ap (items words aliases) k.is ∙ ap (wrapped forms.Items 0) (l.terms (aliases k.name) (items words aliases c.behind) (ap (λ x. opens_items (place_next x)) c.is) (ap (items words aliases) c.is));
          is = ap attr.List l.is;
          begins = ap (λ x. opens_items (place_next x)) k.is;
        }
    attr_terms gap (Dict d) rest es r o quiet told =
        let k = first told in
        let l = dict_terms d _ k.behind r o (record { dialect = λ n. refl; value = refl }) k.told in
        let c = first l.told in
        record {
          behind = c.behind;
          told = c.told;
          term = node forms.Dict 0 l.term nothing;
          terms = ap (items words aliases) k.is ∙ ap (wrapped forms.Dict 0) (l.terms (items words aliases c.behind) (ap (items words aliases) c.is));
          is = ap (λ es. attr.Dict (sorted es)) l.is ∙ ap attr.Dict (sorted_is d o);
          begins = ap (λ x. opens_items (place_next x)) k.is;
        }
    attr_terms gap (OfType t) rest es r o quiet told = type_attr gap t rest es r told
    attr_terms gap (Symbol name) rest es r o quiet told =
        let k = first told in
        record { behind = k.behind; told = k.told; term = node forms.Symbol k.name nothing nothing; terms = ap (items words aliases) k.is; is = ap attr.Symbol (k.says ∙ symbol_spelled name r); begins = ap (λ x. opens_items (place_next x)) k.is }
    attr_terms gap (Numbers width values) rest es r o quiet told =
        let bytes : is_byte_width width ≡ true = and-left _ _ r in
        let few : width ≤ 64 = byte_width width bytes in
        let a = first told in
        let l = first a.told in
        let w = first l.told in
        let n = numbers_terms width values _ w.behind (byte_some width bytes) few (and-right (is_byte_width width) _ r) w.told in
        let c = first n.told in
        record {
          behind = c.behind;
          told = c.told;
          term = node forms.Numbers (width_of (words.width w.name)) n.term nothing;
          terms = ap (items words aliases) a.is ∙ ap (items words aliases) l.is ∙ ap (items words aliases) w.is ∙ ap (wrapped forms.Numbers (width_of (words.width w.name))) (n.terms (items words aliases c.behind) (ap (items words aliases) c.is));
          is = ap (λ k. attr.Ints (width_of k) (numbers_of wording (width_of k) n.term)) (w.says ∙ width_is width few) ∙ ap (attr.Ints width) n.is;
          begins = ap (λ x. opens_items (place_next x)) a.is;
        }
    attr_terms gap (Dialect name names) rest es r o quiet told = dialect_terms gap name names rest es (and-left _ _ r) (and-right (is_dialect_name name) _ r) quiet told

    pub items_terms : (attrs : PlainAttrs) (rest : List PrintedWord) (es : List Event) → are_readable attrs ≡ true → are_ordered attrs ≡ true → IsQuiet rest → Seen words wording Is (items_words attrs rest) es → TookItems rest es attrs
    items_terms end_of_attrs rest es r o quiet told = record { behind = es; told = told; term = nothing; terms = λ alias more keep e. ap (λ a. acted alias a (items words aliases es)) keep ∙ e; is = refl }
    items_terms (more_attrs a attrs) rest es r o quiet told =
        let k = attr_terms [] a _ es (and-left _ _ r) (and-left _ _ o) (more_items_quiet attrs rest quiet) told in
        let m = more_items_terms attrs rest k.behind (and-right (is_readable a) _ r) (and-right (is_ordered a) _ o) quiet k.told in
        record {
          behind = m.behind;
          told = m.told;
          term = node forms.Item 0 k.term m.term;
          terms = λ alias more keep e. ap (λ x. acted alias x (items words aliases es)) k.begins ∙ ap (joined forms.Item 0) (k.terms ∙ ap (λ x. k.term ∷ x) (m.terms more e));
          is = ap (λ t. t ∷ items_of wording m.term) k.is ∙ ap (λ ts. attr_tree a ∷ ts) m.is;
        }

    pub more_items_terms : (attrs : PlainAttrs) (rest : List PrintedWord) (es : List Event) → are_readable attrs ≡ true → are_ordered attrs ≡ true → IsQuiet rest → Seen words wording Is (more_items attrs rest) es → TookList (items_of wording) rest es (attr_trees attrs)
    more_items_terms end_of_attrs rest es r o quiet told = record { behind = es; told = told; term = nothing; terms = λ more e. e; is = refl }
    more_items_terms (more_attrs a attrs) rest es r o quiet told =
        let c = first told in
        let k = attr_terms (codes " ") a _ c.behind (and-left _ _ r) (and-left _ _ o) (more_items_quiet attrs rest quiet) c.told in
        let m = more_items_terms attrs rest k.behind (and-right (is_readable a) _ r) (and-right (is_ordered a) _ o) quiet k.told in
        record {
          behind = m.behind;
          told = m.told;
          term = node forms.Item 0 k.term m.term;
          terms = λ more e. ap (items words aliases) c.is ∙ ap (joined forms.Item 0) (k.terms ∙ ap (λ x. k.term ∷ x) (m.terms more e));
          is = ap (λ t. t ∷ items_of wording m.term) k.is ∙ ap (λ ts. attr_tree a ∷ ts) m.is;
        }

    pub dict_terms : (d : PlainDict) (rest : List PrintedWord) (es : List Event) → is_readable_dict d ≡ true → is_ordered_dict d ≡ true → IsQuiet rest → Seen words wording Is (dict_words d rest) es → TookList (entries_of wording) rest es (dict_tree d)
    dict_terms end_of_entries rest es r o quiet told = record { behind = es; told = told; term = nothing; terms = λ more e. e; is = refl }
    dict_terms (more_entries name a d) rest es r o quiet told =
        let both : ((is_unit a || is_readable a) && is_readable_dict d) ≡ true = and-right (are_bytes name) _ r in
        let order : (is_ordered a && is_ordered_dict d) ≡ true = and-right (is_next name d) _ o in
        let k = first told in
        let e = entry_terms (is_unit a) name a d k.name rest _ _ k.behind (k.says ∙ name_spelled name (and-left _ _ r)) refl (more_dict_quiet d rest quiet)
        (λ behind t. more_dict_terms d rest behind (and-right (is_unit a || is_readable a) _ both) (and-right (is_ordered a) _ order) quiet t)
        (λ no behind t. attr_terms (codes " ") a _ behind (or_other (is_unit a) _ (and-left (is_unit a || is_readable a) _ both) no) (and-left _ _ order) (more_dict_quiet d rest quiet) t) k.told in
        record { behind = e.behind; told = e.told; term = e.term; terms = λ more h. ap (items words aliases) k.is ∙ e.terms more h; is = e.is }

    pub more_dict_terms : (d : PlainDict) (rest : List PrintedWord) (es : List Event) → is_readable_dict d ≡ true → is_ordered_dict d ≡ true → IsQuiet rest → Seen words wording Is (more_dict d rest) es → TookList (entries_of wording) rest es (dict_tree d)
    more_dict_terms end_of_entries rest es r o quiet told = record { behind = es; told = told; term = nothing; terms = λ more e. e; is = refl }
    more_dict_terms (more_entries name a d) rest es r o quiet told =
        let both : ((is_unit a || is_readable a) && is_readable_dict d) ≡ true = and-right (are_bytes name) _ r in
        let order : (is_ordered a && is_ordered_dict d) ≡ true = and-right (is_next name d) _ o in
        let c = first told in
        let k = first c.told in
        let e = entry_terms (is_unit a) name a d k.name rest _ _ k.behind (k.says ∙ name_spelled name (and-left _ _ r)) refl (more_dict_quiet d rest quiet)
        (λ behind t. more_dict_terms d rest behind (and-right (is_unit a || is_readable a) _ both) (and-right (is_ordered a) _ order) quiet t)
        (λ no behind t. attr_terms (codes " ") a _ behind (or_other (is_unit a) _ (and-left (is_unit a || is_readable a) _ both) no) (and-left _ _ order) (more_dict_quiet d rest quiet) t) k.told in
        record { behind = e.behind; told = e.told; term = e.term; terms = λ more h. ap (items words aliases) c.is ∙ ap (items words aliases) k.is ∙ e.terms more h; is = e.is }
