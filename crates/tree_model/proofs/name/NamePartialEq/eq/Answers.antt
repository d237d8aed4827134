use Rattle.std.proofs.Common.{◌≡◌, sym, ◌∙◌, ap}
use Rattle.tree_model.specs.Forms.{text_of}
use Rattle.tree_model.specs.Known.{known_text}
use Rattle.tree_model.proofs.KnownLaws.{same_number}
use Rattle.tree_model.proofs.name.NamePartialEq.eq.Goals as goal

pub returns-in-Known-Known : goal.returns-in-Known-Known
returns-in-Known-Known c =
    let left : known_text c.in-Known-Known.a ≡ c.args.self.now = sym (ap text_of c.in-Known-Known.is-0) ∙ c.self.view_is in
    let right : known_text c.in-Known-Known.b ≡ c.args.other.now = sym (ap text_of c.in-Known-Known.is-1) ∙ c.other.view_is in
    rw (← left, ← right) (same_number _ _ (rw c.in-Known-Known.is-0 at c.self.invariant) (rw c.in-Known-Known.is-1 at c.other.invariant))
