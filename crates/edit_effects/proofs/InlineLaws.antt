-- The blocks of a region that go over to another one, as an edit of the tree.
use Rattle.std.proofs.Common.{◌≡◌, ℕ, zero, suc, ◌<◌, inl, inr, List, [], ◌∷◌, ◌++◌, length, get_or, set, take, drop, cond, ◌==◌, refl, sym, ap, subst, ◌∙◌, arith}
use Rattle.std.proofs.lemmas.List.{get_or-set_same, get_or-set_other, length-set}
use Rattle.std.proofs.lemmas.Bool.{cases_eq, eq-eqb, ne_eqb}
use Rattle.flat_model.specs.Flat.{Flat, op_at, block_at, blocks_at}
use Rattle.edit_effects.specs.HandleTree.{Op, op_of, Ops, ops_end, next_op, Regions, regions_end, next_region, Blocks, blocks_end, next_block}
use Rattle.edit_effects.specs.Effects.{Edit, op_edited, ops_edited, regions_edited, blocks_edited}
use Rattle.edit_effects.specs.Cuts.{with_inlined}
use Rattle.edit_effects.specs.Places.{BlockStandsAt, BlockStandsOnce}
use Rattle.edit_effects.specs.Moves.{in_front, put_before, region_inlined}
use Rattle.edit_effects.specs.Shown.{OpIs, OpsAre, RegionsAre, BlocksAre, OpLacks, OpsLack, RegionsLack, BlocksLack}

-- a list that has something at a place is there
inside_list : (xss : List (List ℕ)) (r k : ℕ) → k < length (get_or xss r []) → r < length xss
inside_list [] r k h = absurd (omega arith)
inside_list (xs ∷ xss) zero k h = omega arith
inside_list (xs ∷ xss) (suc r) k h = let l : r < length xss = inside_list xss r k h in omega arith

module _ (f : Flat) (region other place before : ℕ) (moved : Blocks) where
  abbrev after : Flat
  after = with_inlined f region other place

  abbrev inlining : Edit
  inlining = region_inlined region before moved

  -- other regions keep their blocks
  others_keep : (r : ℕ) → (r ≡ region → ⊥) → (r ≡ other → ⊥) → blocks_at after r ≡ blocks_at f r
  others_keep r d e = get_or-set_other (set f.regions region []) other r (take place (blocks_at f other) ++ blocks_at f region ++ drop place (blocks_at f other)) [] e ∙ get_or-set_other f.regions region r [] [] d

  mutual
    -- a tree without the two regions stays
    op_stays : (i : ℕ) (t : Op) → OpIs f i t → OpLacks region other t → OpIs after i t
    op_stays i (op_of front regions) h a = (h.0, regions_stay (op_at f i).regions regions h.1 a)

    ops_stay : (is : List ℕ) (t : Ops) → OpsAre f is t → OpsLack region other t → OpsAre after is t
    ops_stay [] ops_end h a = tt
    ops_stay [] (next_op o os) h a = absurd h
    ops_stay (i ∷ is) ops_end h a = absurd h
    ops_stay (i ∷ is) (next_op o os) h a = (op_stays i o h.0 a.0, ops_stay is os h.1 a.1)

    regions_stay : (rs : List ℕ) (t : Regions) → RegionsAre f rs t → RegionsLack region other t → RegionsAre after rs t
    regions_stay [] regions_end h a = tt
    regions_stay [] (next_region q bs more) h a = absurd h
    regions_stay (r ∷ rs) regions_end h a = absurd h
    regions_stay (r ∷ rs) (next_region q bs more) h a = (
      h.0,
      subst (λ (xs : List ℕ). BlocksAre after xs bs) (sym (others_keep r (λ e. a.0 (h.0 ∙ e)) (λ e. a.1 (h.0 ∙ e)))) (blocks_stay (blocks_at f r) bs h.1 a.2),
      regions_stay rs more h.2 a.3,
    )

    blocks_stay : (bs : List ℕ) (t : Blocks) → BlocksAre f bs t → BlocksLack region other t → BlocksAre after bs t
    blocks_stay [] blocks_end h a = tt
    blocks_stay [] (next_block c args os more) h a = absurd h
    blocks_stay (b ∷ bs) blocks_end h a = absurd h
    blocks_stay (b ∷ bs) (next_block c args os more) h a = (h.0, h.1, ops_stay (block_at f b).ops os h.2 a.0, blocks_stay bs more h.3 a.1)

  -- blocks among which that one isn't
  put_absent : (bs : List ℕ) (t : Blocks) → BlocksAre after bs t → ((k : ℕ) → k < length bs → get_or bs k 0 ≡ before → ⊥) → put_before before moved t ≡ t
  put_absent [] blocks_end h a = refl
  put_absent [] (next_block c args os more) h a = absurd h
  put_absent (b ∷ bs) blocks_end h a = absurd h
  put_absent (b ∷ bs) (next_block c args os more) h a = rw (ne_eqb c before (λ e. a zero (omega arith) (sym h.0 ∙ e))) (ap (next_block c args os) (put_absent bs more h.3 (λ k l. a (suc k) (omega arith))))

  front_are : (ms : List ℕ) (m : Blocks) → BlocksAre after ms m → (bs : List ℕ) (t : Blocks) → BlocksAre after bs t → BlocksAre after (ms ++ bs) (in_front m t)
  front_are [] blocks_end g bs t h = h
  front_are [] (next_block c args os more) g bs t h = absurd g
  front_are (b ∷ ms) blocks_end g bs t h = absurd g
  front_are (b ∷ ms) (next_block c args os more) g bs t h = (g.0, g.1, g.2, front_are ms more g.3 bs t h)

  -- blocks of which that one is the first at a place
  put_there : (ms : List ℕ) → BlocksAre after ms moved → (bs : List ℕ) (at : ℕ) (t : Blocks) → at < length bs → get_or bs at 0 ≡ before → ((k : ℕ) → k < at → get_or bs k 0 ≡ before → ⊥)
      → BlocksAre after bs t → BlocksAre after (take at bs ++ ms ++ drop at bs) (put_before before moved t)
  put_there ms g [] at t l e o h = absurd (omega arith)
  put_there ms g (b ∷ bs) at blocks_end l e o h = absurd h
  put_there ms g (b ∷ bs) zero (next_block c args os more) l e o h = rw (eq-eqb c before (h.0 ∙ e)) (front_are ms moved g (b ∷ bs) (next_block c args os more) h)
  put_there ms g (b ∷ bs) (suc at) (next_block c args os more) l e o h = rw (ne_eqb c before (λ d. o zero (omega arith) (sym h.0 ∙ d)))
      (h.0, h.1, h.2, put_there ms g bs at more (omega arith) e (λ k m. o (suc k) (omega arith)) h.3)

  module _ (l : region < length f.regions) (apart : region ≡ other → ⊥) (s : BlockStandsAt f before other place) (u : BlockStandsOnce f before) (m : BlocksAre f (blocks_at f region) moved) (a : BlocksLack region other moved) where
    region_goes : (r : ℕ) (t : Blocks) → BlocksAre after (blocks_at f r) t → BlocksAre after (blocks_at after r) (cond (r == region) blocks_end (put_before before moved t))
    region_goes r t h = let xs = take place (blocks_at f other) ++ blocks_at f region ++ drop place (blocks_at f other) in elim (cases_eq r region) [
      | inl p ↦ rw (eq-eqb r region p)
          (subst (λ (bs : List ℕ). BlocksAre after bs blocks_end) (sym (ap (blocks_at after) p ∙ get_or-set_other (set f.regions region []) other region xs [] apart ∙ get_or-set_same f.regions region [] [] l)) tt)
      | inr d ↦ rw (ne_eqb r region d) (elim (cases_eq r other) [
        | inl p ↦
            let e : blocks_at after r ≡ xs = ap (blocks_at after) p ∙ get_or-set_same (set f.regions region []) other xs [] (let i = s.inside in omega (arith, i, length-set f.regions region [])) in
            let h2 : BlocksAre after (blocks_at f other) t = subst (λ x. BlocksAre after (blocks_at f x) t) p h in
            subst (λ (bs : List ℕ). BlocksAre after bs (put_before before moved t)) (sym e)
            (put_there (blocks_at f region) (blocks_stay (blocks_at f region) moved m a) (blocks_at f other) place t s.place s.is
            (λ k j x. let y = (u.once other k other place (record { inside = s.inside; place = let i = s.place in omega arith; is = x }) s).1 in omega (arith, j, y)) h2)
        | inr e ↦ subst (λ (bs : List ℕ). BlocksAre after bs (put_before before moved t)) (sym (others_keep r d e))
            (subst (λ (x : Blocks). BlocksAre after (blocks_at f r) x)
            (sym (put_absent (blocks_at f r) t h (λ k j x. e (u.once r k other place (record { inside = inside_list f.regions r k j; place = j; is = x }) s).0))) h)
      ])
    ]

    mutual
      op_goes : (i : ℕ) (t : Op) → OpIs f i t → OpIs after i (op_edited inlining t)
      op_goes i (op_of front regions) h = (h.0, regions_go (op_at f i).regions regions h.1)

      ops_go : (is : List ℕ) (t : Ops) → OpsAre f is t → OpsAre after is (ops_edited inlining t)
      ops_go [] ops_end h = tt
      ops_go [] (next_op o os) h = absurd h
      ops_go (i ∷ is) ops_end h = absurd h
      ops_go (i ∷ is) (next_op o os) h = (op_goes i o h.0, ops_go is os h.1)

      regions_go : (rs : List ℕ) (t : Regions) → RegionsAre f rs t → RegionsAre after rs (regions_edited inlining t)
      regions_go [] regions_end h = tt
      regions_go [] (next_region q bs more) h = absurd h
      regions_go (r ∷ rs) regions_end h = absurd h
      regions_go (r ∷ rs) (next_region q bs more) h = (
        h.0,
        subst (λ x. BlocksAre after (blocks_at after r) (cond (x == region) blocks_end (put_before before moved (blocks_edited inlining bs)))) (sym h.0) (region_goes r (blocks_edited inlining bs) (blocks_go (blocks_at f r) bs h.1)),
        regions_go rs more h.2,
      )

      blocks_go : (bs : List ℕ) (t : Blocks) → BlocksAre f bs t → BlocksAre after bs (blocks_edited inlining t)
      blocks_go [] blocks_end h = tt
      blocks_go [] (next_block c args os more) h = absurd h
      blocks_go (b ∷ bs) blocks_end h = absurd h
      blocks_go (b ∷ bs) (next_block c args os more) h = (h.0, h.1, ops_go (block_at f b).ops os h.2, blocks_go bs more h.3)

pub inline_effect : (f g : Flat) (region other place before : ℕ) → g ≡ with_inlined f region other place → region < length f.regions → (region ≡ other → ⊥) → BlockStandsAt f before other place → BlockStandsOnce f before
    → (i : ℕ) (t : Op) (moved : Blocks) → OpIs f i t → BlocksAre f (blocks_at f region) moved → BlocksLack region other moved → OpIs g i (op_edited (region_inlined region before moved) t)
inline_effect f g region other place before e l p s u i t moved h m a = subst (λ x. OpIs x i (op_edited (region_inlined region before moved) t)) (sym e) (op_goes f region other place before moved l p s u m a i t h)
