-- Sources of several values, and the fields of memrefs.
use Rattle.std.proofs.Common.{◌≡◌, ℕ, suc, ◌+◌, List, [], ◌∷◌, ◌++◌, length, Some, refl, sym, ap, ap₂, subst, ◌∙◌}
use Rattle.std.specs.Prelude.{codes, map, pos, ℤ}
use Rattle.tree_model.specs.declared.type_tree.Dim.{Dim}
use Rattle.number_model.specs.Answers.{Answer, Gives, and_then, with_answer}
use Rattle.number_model.specs.Answers.{Answer as answer}
use Rattle.operation_model.specs.Values.{Value, part_at, parts_at, counted, size_path, stride_path, field_paths, allocated_path, aligned_path, offset_path}
use Rattle.operation_model.specs.Pures.{one, TakesPart}
use Rattle.operation_model.specs.Doings.{Doing}
use Rattle.plain_tree.specs.Types.{PlainType, Int, Ptr}
use Rattle.conversion_model.specs.declared.templates.Source.{Source}
use Rattle.conversion_model.specs.declared.templates.Source.TheVariants.{Made}
use Rattle.form_model.specs.Properties.{naturals}
use Rattle.pattern_model.specs.Drafts.{Draft}
use Rattle.pattern_model.specs.MemrefRows.{extract, position}
use Rattle.pattern_model.specs.FuncRows.{fields_at, fields, fields_of}
use Rattle.sound_model.specs.Runs.{and_item, items_of}
use Rattle.row_laws.proofs.Steps.{of_gives, undefined_gives, outside_gives}
use Rattle.memory_row_laws.proofs.MemoryForms.{extract_form}
use Rattle.memory_row_laws.proofs.DraftRuns.{goes, Has, Counts, counts_on, has_new, has_on, value_goes}
use Rattle.memory_row_laws.proofs.Elements.{Given, given_in_turn, Stays, Behind}

-- what is given through a function
pub record Through {A B : Type 0} (f : A → B) (a : Answer A) (r : B) : Type 0 where
  pub value : A
  pub given : a ≡ Gives value
  pub is : f value ≡ r

pub through : {A B : Type 0} (f : A → B) (a : Answer A) (r : B) → with_answer f a ≡ Gives r → Through f a r
through f (Gives x) r e = record { value = x; given = refl; is = of_gives e }
through f answer.Undefined r e = absurd (undefined_gives e)
through f answer.Outside r e = absurd (outside_gives e)

-- the parts at the paths of two lists
pub record Split (ps qs : List (List ℕ)) (v : Value) (vs : List Value) : Type 0 where
  pub front : List Value
  pub back : List Value
  pub first : parts_at ps v ≡ Gives front
  pub second : parts_at qs v ≡ Gives back
  pub is : front ++ back ≡ vs

pub split : (ps qs : List (List ℕ)) (v : Value) (vs : List Value) → parts_at (ps ++ qs) v ≡ Gives vs → Split ps qs v vs
split [] qs v vs e = record { front = []; back = vs; first = refl; second = e; is = refl }
split (p ∷ ps) qs v vs e =
    let g : Given (part_at p v) _ vs = given_in_turn (part_at p v) (λ part. with_answer (λ parts. part ∷ parts) (parts_at (ps ++ qs) v)) vs e in
    let t : Through (λ parts. g.value ∷ parts) (parts_at (ps ++ qs) v) vs = through _ _ vs g.then_given in
    let s : Split ps qs v t.value = split ps qs v t.value t.given in
    record {
      front = g.value ∷ s.front;
      back = s.back;
      first = ap (λ a. and_then a (λ part. with_answer (λ parts. part ∷ parts) (parts_at ps v))) g.first ∙ ap (with_answer (λ parts. g.value ∷ parts)) s.first;
      second = s.second;
      is = ap (λ l. g.value ∷ l) s.is ∙ t.is;
    }

-- a part at a path and those behind it
pub record First (p : List ℕ) (ps : List (List ℕ)) (v : Value) (vs : List Value) : Type 0 where
  pub part : Value
  pub rest : List Value
  pub first : part_at p v ≡ Gives part
  pub others : parts_at ps v ≡ Gives rest
  pub is : part ∷ rest ≡ vs

pub first_part : (p : List ℕ) (ps : List (List ℕ)) (v : Value) (vs : List Value) → parts_at (p ∷ ps) v ≡ Gives vs → First p ps v vs
first_part p ps v vs e =
    let g : Given (part_at p v) _ vs = given_in_turn (part_at p v) (λ part. with_answer (λ parts. part ∷ parts) (parts_at ps v)) vs e in
    let t : Through (λ parts. g.value ∷ parts) (parts_at ps v) vs = through _ _ vs g.then_given in
    record { part = g.value; rest = t.value; first = g.first; others = t.given; is = t.is }

module _ (bits : ℕ) (types : List PlainType) (args : List Value) (labels : List ℕ) (next : List Value → Doing) where
  -- sources one by one, with their types and values
  pub data Each (made_types : List PlainType) (made : List Value) : List Source → List PlainType → List Value → Type 0 where
    each_ended : Each made_types made [] [] []
    each_on : {s : Source} {t : PlainType} {v : Value} {ss : List Source} {ts : List PlainType} {vs : List Value} → Has bits types args labels next made_types made s t v → Each made_types made ss ts vs → Each made_types made (s ∷ ss) (t ∷ ts) (v ∷ vs)

  pub each_types : {made_types : List PlainType} {made : List Value} {ss : List Source} {ts : List PlainType} {vs : List Value} → Each made_types made ss ts vs → items_of types made_types ss ≡ Some ts
  each_types each_ended = refl
  each_types (each_on h rest) = ap₂ and_item h.type (each_types rest)

  pub each_values : {made_types : List PlainType} {made : List Value} {ss : List Source} {ts : List PlainType} {vs : List Value} → Each made_types made ss ts vs → items_of args made ss ≡ Some vs
  each_values each_ended = refl
  each_values (each_on h rest) = ap₂ and_item h.value (each_values rest)

  pub as_many : {made_types : List PlainType} {made : List Value} {ss : List Source} {ts : List PlainType} {vs : List Value} → Each made_types made ss ts vs → length vs ≡ length ts
  as_many each_ended = refl
  as_many (each_on h rest) = ap suc (as_many rest)

  pub each_stays : {made_types more_types : List PlainType} {made more : List Value} {ss : List Source} {ts : List PlainType} {vs : List Value} → Stays bits types args labels next made_types made more_types more → Each made_types made ss ts vs → Each more_types more ss ts vs
  each_stays stays each_ended = each_ended
  each_stays stays (each_on h rest) = each_on (stays _ _ _ h) (each_stays stays rest)

  pub each_append : {made_types : List PlainType} {made : List Value} {ss rs : List Source} {ts us : List PlainType} {vs ws : List Value} → Each made_types made ss ts vs → Each made_types made rs us ws → Each made_types made (ss ++ rs) (ts ++ us) (vs ++ ws)
  each_append each_ended more = more
  each_append (each_on h rest) more = each_on h (each_append rest more)

  module _ (m : Source) (t : PlainType) (memref : Value) where
    -- one part
    pub part_goes : (zs : List ℕ) (u : PlainType) (k : Source → Draft) (n : ℕ) (made_types : List PlainType) (made : List Value) (part : Value) → Has bits types args labels next made_types made m t memref → Counts bits types args labels next n made_types made
        → part_at zs memref ≡ Gives part → (path : List ℤ) → naturals path ≡ Some zs → (P : Doing → Type 0)
        → (Has bits types args labels next (made_types ++ u ∷ []) (made ++ part ∷ []) (Made n) u part → Behind bits types args labels next made_types made (n + 1) (made_types ++ u ∷ []) (made ++ part ∷ [])
        → P (goes bits types args labels next (k (Made n)) (n + 1) (made_types ++ u ∷ []) (made ++ part ∷ [])))
        → P (goes bits types args labels next (extract m path u k) n made_types made)
    part_goes zs u k n made_types made part has counts is path known P f =
        subst P (sym (value_goes bits types args labels next (codes "llvm.extractvalue") (m ∷ []) (position path) u k n made_types made (t ∷ []) (memref ∷ []) (TakesPart zs) part
        (ap (λ x. and_item x (Some [])) has.type) (ap (λ x. and_item x (Some [])) has.value) (extract_form bits path zs known (t ∷ []) (u ∷ [])) (ap (with_answer one) is)))
        (f (has_new bits types args labels next u part counts) (record { counts = counts_on bits types args labels next u part counts; stays = λ s w v h. has_on bits types args labels next u part h }))

    -- the fields under a path
    fields_at_goes : (path : ℕ) (dims : List Dim) (j : ℕ) (vs : List Value) (onward : List Source → Draft) (n : ℕ) (made_types : List PlainType) (made : List Value) → Has bits types args labels next made_types made m t memref → Counts bits types args labels next n made_types made
        → parts_at (map (λ i. path ∷ i ∷ []) (counted j (length dims))) memref ≡ Gives vs → (P : Doing → Type 0)
        → ((n' : ℕ) (more_types : List PlainType) (more : List Value) (ss : List Source) → Each more_types more ss (map (λ d. Int bits) dims) vs → Behind bits types args labels next made_types made n' more_types more → P (goes bits types args labels next (onward ss) n' more_types more))
        → P (goes bits types args labels next (fields_at bits m path j dims onward) n made_types made)
    fields_at_goes path [] j vs onward n made_types made has counts is P f =
        subst (λ vs. (Each made_types made [] [] vs → Behind bits types args labels next made_types made n made_types made → P (goes bits types args labels next (onward []) n made_types made)) → P (goes bits types args labels next (onward []) n made_types made))
        (of_gives is) (λ g. g each_ended (record { counts = counts; stays = λ s w v h. h })) (f n made_types made [])
    fields_at_goes path (d ∷ dims) j vs onward n made_types made has counts is P f =
        let e : First (path ∷ j ∷ []) (map (λ i. path ∷ i ∷ []) (counted (j + 1) (length dims))) memref vs = first_part (path ∷ j ∷ []) _ memref vs is in
        part_goes (path ∷ j ∷ []) (Int bits) (λ s. fields_at bits m path (j + 1) dims λ ss. onward (s ∷ ss)) n made_types made e.part has counts e.first (pos path ∷ pos j ∷ []) refl P λ has_s behind.
        fields_at_goes path dims (j + 1) e.rest (λ ss. onward (Made n ∷ ss)) (n + 1) (made_types ++ Int bits ∷ []) (made ++ e.part ∷ []) (behind.stays m t memref has) behind.counts e.others P λ n' more_types more ss each behind2.
        f n' more_types more (Made n ∷ ss)
        (subst (λ vs. Each more_types more (Made n ∷ ss) (Int bits ∷ map (λ d. Int bits) dims) vs) e.is (each_on (behind2.stays (Made n) (Int bits) e.part has_s) each))
        (record { counts = behind2.counts; stays = λ s w v h. behind2.stays s w v (behind.stays s w v h) })

    -- all fields of a memref
    pub fields_goes : (dims : List Dim) (vs : List Value) (onward : List Source → Draft) (n : ℕ) (made_types : List PlainType) (made : List Value) → Has bits types args labels next made_types made m t memref → Counts bits types args labels next n made_types made
        → parts_at (field_paths (length dims)) memref ≡ Gives vs → (P : Doing → Type 0)
        → ((n' : ℕ) (more_types : List PlainType) (more : List Value) (ss : List Source) → Each more_types more ss (fields_of bits dims) vs → Behind bits types args labels next made_types made n' more_types more → P (goes bits types args labels next (onward ss) n' more_types more))
        → P (goes bits types args labels next (fields bits m dims onward) n made_types made)
    fields_goes dims vs onward n made_types made has counts is P f =
        let rank : ℕ = length dims in
        let sizes : List (List ℕ) = map size_path (counted 0 rank) in
        let strides : List (List ℕ) = map stride_path (counted 0 rank) in
        let a : First allocated_path (aligned_path ∷ offset_path ∷ (sizes ++ strides)) memref vs = first_part allocated_path (aligned_path ∷ offset_path ∷ (sizes ++ strides)) memref vs is in
        let b : First aligned_path (offset_path ∷ (sizes ++ strides)) memref a.rest = first_part aligned_path (offset_path ∷ (sizes ++ strides)) memref a.rest a.others in
        let c : First offset_path (sizes ++ strides) memref b.rest = first_part offset_path (sizes ++ strides) memref b.rest b.others in
        let s : Split sizes strides memref c.rest = split sizes strides memref c.rest c.others in
        let all : a.part ∷ b.part ∷ c.part ∷ (s.front ++ s.back) ≡ vs = ap (λ l. a.part ∷ b.part ∷ c.part ∷ l) s.is ∙ ap (λ l. a.part ∷ b.part ∷ l) c.is ∙ ap (λ l. a.part ∷ l) b.is ∙ a.is in
        part_goes allocated_path Ptr (λ p. extract m (pos 1 ∷ []) Ptr λ q. extract m (pos 2 ∷ []) (Int bits) λ f. fields_at bits m 3 0 dims λ ss. fields_at bits m 4 0 dims λ ts. onward (p ∷ q ∷ f ∷ (ss ++ ts)))
        n made_types made a.part has counts a.first (pos 0 ∷ []) refl P λ has_p behind1.
        part_goes aligned_path Ptr (λ q. extract m (pos 2 ∷ []) (Int bits) λ f. fields_at bits m 3 0 dims λ ss. fields_at bits m 4 0 dims λ ts. onward (Made n ∷ q ∷ f ∷ (ss ++ ts)))
        (n + 1) (made_types ++ Ptr ∷ []) (made ++ a.part ∷ []) b.part (behind1.stays m t memref has) behind1.counts b.first (pos 1 ∷ []) refl P λ has_q behind2.
        let stays2 : Stays bits types args labels next made_types made ((made_types ++ Ptr ∷ []) ++ Ptr ∷ []) ((made ++ a.part ∷ []) ++ b.part ∷ []) = λ r w v h. behind2.stays r w v (behind1.stays r w v h) in
        part_goes offset_path (Int bits) (λ f. fields_at bits m 3 0 dims λ ss. fields_at bits m 4 0 dims λ ts. onward (Made n ∷ Made (n + 1) ∷ f ∷ (ss ++ ts)))
        (n + 1 + 1) ((made_types ++ Ptr ∷ []) ++ Ptr ∷ []) ((made ++ a.part ∷ []) ++ b.part ∷ []) c.part (stays2 m t memref has) behind2.counts c.first (pos 2 ∷ []) refl P λ has_f behind3.
        let ts3 : List PlainType = ((made_types ++ Ptr ∷ []) ++ Ptr ∷ []) ++ Int bits ∷ [] in
        let vs3 : List Value = ((made ++ a.part ∷ []) ++ b.part ∷ []) ++ c.part ∷ [] in
        let stays3 : Stays bits types args labels next made_types made ts3 vs3 = λ r w v h. behind3.stays r w v (stays2 r w v h) in
        let three : Each ts3 vs3 (Made n ∷ Made (n + 1) ∷ Made (n + 1 + 1) ∷ []) (Ptr ∷ Ptr ∷ Int bits ∷ []) (a.part ∷ b.part ∷ c.part ∷ []) =
        each_on (behind3.stays (Made n) Ptr a.part (behind2.stays (Made n) Ptr a.part has_p)) (each_on (behind3.stays (Made (n + 1)) Ptr b.part has_q) (each_on has_f each_ended)) in
        fields_at_goes 3 dims 0 s.front (λ ss. fields_at bits m 4 0 dims λ ts. onward (Made n ∷ Made (n + 1) ∷ Made (n + 1 + 1) ∷ (ss ++ ts)))
        (n + 1 + 1 + 1) ts3 vs3 (stays3 m t memref has) behind3.counts s.first P λ n4 ts4 vs4 ss each4 behind4.
        fields_at_goes 4 dims 0 s.back (λ ts. onward (Made n ∷ Made (n + 1) ∷ Made (n + 1 + 1) ∷ (ss ++ ts)))
        n4 ts4 vs4 (behind4.stays m t memref (stays3 m t memref has)) behind4.counts s.second P λ n5 ts5 vs5 rs each5 behind5.
        f n5 ts5 vs5 (Made n ∷ Made (n + 1) ∷ Made (n + 1 + 1) ∷ (ss ++ rs))
        (subst (λ vs. Each ts5 vs5 (Made n ∷ Made (n + 1) ∷ Made (n + 1 + 1) ∷ (ss ++ rs)) (fields_of bits dims) vs) all
        (each_append (each_stays behind5.stays (each_stays behind4.stays three)) (each_append (each_stays behind5.stays each4) each5)))
        (record { counts = behind5.counts; stays = λ r w v h. behind5.stays r w v (behind4.stays r w v (stays3 r w v h)) })
