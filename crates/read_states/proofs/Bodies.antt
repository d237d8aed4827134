-- What stands in a function ends where it began: in the same region.
use Rattle.std.proofs.Common.{◌≡◌, ℕ, ◌+◌, ◌-◌, ◌==◌, Bool, true, false, List, refl, ap, ◌∙◌, arith}
use Rattle.std.specs.Prelude.{if◌then◌else◌}
use Rattle.text_grammar.specs.declared.places.Place.{Place}
use Rattle.text_grammar.specs.declared.places.Place.TheVariants as places
use Rattle.text_scopes.specs.declared.bodies.Body.{Body}
use Rattle.text_scopes.specs.declared.bodies.Class.{Class}
use Rattle.text_scopes.specs.Bodies.{opens_body}
use Rattle.event_trees.specs.Wording.{Wording}
use Rattle.text_forms.specs.Forms.{IsArgs, IsBlocks, IsBody, IsOps, IsRegions, arg, block, body, no_args, no_blocks, no_ops, no_regions, op, region}
use Rattle.read_states.specs.States.{State}
use Rattle.read_states.proofs.Words.{there_bodies}
use Rattle.read_states.proofs.Parts.{T, loc_alike, names_alike, still_alike}
use Rattle.read_states.proofs.Counting.{body_at, close_body, inside, inside_closed, not_zero, op_body, open_body, outside_at}

module _ (words : Wording) (class : ℕ → Class) (numbers : List ℕ) where
  abbrev pub Takes : Place → State → State → Type 0
  Takes p x y = T words class numbers p x y

  abbrev pub at : State → Body
  at x = body_at words class numbers x

  pub args_stay : {x y : State} → IsArgs Takes x y → at y ≡ at x
  args_stay (no_args s) = (still_alike words class numbers s).body_is
  args_stay (arg s a t l more) =
      args_stay more ∙ (loc_alike words class numbers l).body_is ∙ (still_alike words class numbers t).body_is ∙ there_bodies words class numbers refl a ∙ (still_alike words class numbers s).body_is

  -- the name of an operation in a function
  pub name_stays : (n : ℕ) (m : Bool) {x y : State} → Takes places.OpName x y → at x ≡ inside n m → at y ≡ inside n m
  name_stays n m {x} {y} t e =
      op_body words class numbers t ∙ ap (λ (b : Body). if b.within == 0 then outside_at (Rattle.text_scopes.specs.Bodies.is_module (class t.name)) else b) e
      ∙ ap (λ b. if b then outside_at (Rattle.text_scopes.specs.Bodies.is_module (class t.name)) else inside n m) (not_zero n)

  pub opens_stay : {x y : State} → Takes places.RegionOpen x y → opens_body (at x) ≡ false → at y ≡ inside x.counts.body.within x.counts.body.at_module
  opens_stay {x} t e = open_body words class numbers t ∙ ap (λ b. if b then at x else inside x.counts.body.within x.counts.body.at_module) e

  pub closes_stay : (n : ℕ) (m : Bool) {x y : State} → Takes places.RegionClose x y → at x ≡ inside n m → at y ≡ record { within = n; at_module = m }
  closes_stay n m t e =
      close_body words class numbers t ∙ ap (λ (b : Body). if b.within == 0 then outside_at true else record { within = b.within - 1; at_module = b.at_module }) e
      ∙ ap (λ b. if b then outside_at true else record { within = n + 1 - 1; at_module = m }) (not_zero n)
      ∙ (let same : n + 1 - 1 ≡ n = omega arith in ap (λ j. record { within = j; at_module = m }) same)

  mutual
    pub body_stays : {x y : State} → IsBody Takes x y → opens_body (at x) ≡ false → at y ≡ at x
    body_stays (body s regions t colon begins types arrow results l) e =
        let one = (still_alike words class numbers s).body_is in
        (loc_alike words class numbers l).body_is ∙ (still_alike words class numbers results).body_is ∙ there_bodies words class numbers refl arrow ∙ (still_alike words class numbers types).body_is
        ∙ there_bodies words class numbers refl begins ∙ there_bodies words class numbers refl colon ∙ (still_alike words class numbers t).body_is
        ∙ regions_stay regions (ap opens_body one ∙ e) ∙ one

    pub ops_stay : (n : ℕ) (m : Bool) {x y : State} → IsOps Takes x y → at x ≡ inside n m → at y ≡ inside n m
    ops_stay n m (no_ops x) e = e
    ops_stay n m (op names o b more) e =
        let named = name_stays n m o ((names_alike words class numbers names).body_is ∙ e) in
        ops_stay n m more (body_stays b (ap opens_body named ∙ inside_closed n m) ∙ named)

    pub regions_stay : {x y : State} → IsRegions Takes x y → opens_body (at x) ≡ false → at y ≡ at x
    regions_stay (no_regions s) e = (still_alike words class numbers s).body_is
    regions_stay (region {x} {a} s o ops blocks c more) e =
        let one = (still_alike words class numbers s).body_is in
        let there = closes_stay a.counts.body.within a.counts.body.at_module c (blocks_stay a.counts.body.within a.counts.body.at_module blocks (ops_stay a.counts.body.within a.counts.body.at_module ops (opens_stay o (ap opens_body one ∙ e)))) in
        regions_stay more (ap opens_body (there ∙ one) ∙ e) ∙ there ∙ one

    pub blocks_stay : (n : ℕ) (m : Bool) {x y : State} → IsBlocks Takes x y → at x ≡ inside n m → at y ≡ inside n m
    blocks_stay n m (no_blocks x) e = e
    blocks_stay n m (block l args colon ops more) e =
        blocks_stay n m more (ops_stay n m ops (there_bodies words class numbers refl colon ∙ args_stay args ∙ there_bodies words class numbers refl l ∙ e))
