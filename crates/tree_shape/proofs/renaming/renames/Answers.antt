use Rattle.std.proofs.Common.{◌≡◌, ◌<◌, length, nat_eq, ap, arith, rules}
use Rattle.std.specs.Prelude.{unwrap_or}
use Rattle.std.specs.HashMap.{get}
use Rattle.std.proofs.lemmas.Slice.Zip.{zip_end}
use Rattle.tree_shape.proofs.RenamingLaws.{renames_by_place}
use Rattle.tree_shape.proofs.renaming.renames.Goals as goal

-- The map's look-up is the renaming: at the end each place has been seen.
pub returns : goal.returns
returns c =
    let all = zip_end c.args.from.now c.args.to.now c.loop-x.yielded c.into_iter-x-iterator.result c.loop-x.x-iterator c.next.new.self c.next.result (search rules) (search rules) c.loop-x.yielded_by c.in-None.is c.next.ensures.steps in
    let long : length c.args.from.now ≡ length c.args.to.now = search rules in (
      (λ t. (
        (λ v. unwrap_or (get nat_eq c.loop-x.names v) 0),
        renames_by_place _ _ _ long (λ k h. let i : k < length c.loop-x.yielded = omega (arith, all, long, h) in ap (λ o. unwrap_or o 0) (c.loop-x.invariant.seen k i)),
      )),
      (λ r. search rules),
    )
