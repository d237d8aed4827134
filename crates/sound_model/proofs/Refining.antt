-- Doings that keep to one another: each to itself, along two steps, and one behind another.
use Rattle.std.proofs.Common.{◌≡◌, List, refl, subst}
use Rattle.operation_model.specs.Values.{Value}
use Rattle.operation_model.specs.Doings.{Doing, Ends, Asks, Calls, Jumps, Returns, Undefined, Outside}
use Rattle.sound_model.specs.Refinement.{Refines, settled_then, then_on}

pub refines_refl : (d : Doing) → Refines d d
refines_refl (Ends ys) = refl
refines_refl (Asks q k) = (k, refl, λ ys. refines_refl (k ys))
refines_refl (Calls f xs k) = (k, refl, λ ys. refines_refl (k ys))
refines_refl (Jumps l ys) = refl
refines_refl (Returns ys) = refl
refines_refl Undefined = tt
refines_refl Outside = tt

pub refines_same : {d e : Doing} → d ≡ e → Refines d e
refines_same {d} same = subst (λ x. Refines d x) same (refines_refl d)

pub refines_trans : (d e f : Doing) → Refines d e → Refines e f → Refines d f
refines_trans (Ends ys) e f r s = subst (λ x. Refines x f) r s
refines_trans (Asks q k) e f r s =
    let t : Refines (Asks q r.0) f = subst (λ x. Refines x f) r.1 s in
    (t.0, t.1, λ ys. refines_trans (k ys) (r.0 ys) (t.0 ys) (r.2 ys) (t.2 ys))
refines_trans (Calls g xs k) e f r s =
    let t : Refines (Calls g xs r.0) f = subst (λ x. Refines x f) r.1 s in
    (t.0, t.1, λ ys. refines_trans (k ys) (r.0 ys) (t.0 ys) (r.2 ys) (t.2 ys))
refines_trans (Jumps l ys) e f r s = subst (λ x. Refines x f) r s
refines_trans (Returns ys) e f r s = subst (λ x. Refines x f) r s
refines_trans Undefined e f r s = tt
refines_trans Outside e f r s = tt

pub settled_then_refines : (d : Doing) (next other : List Value → Doing) → ((ys : List Value) → Refines (next ys) (other ys)) → Refines (settled_then d next) (settled_then d other)
settled_then_refines (Ends ys) next other h = h ys
settled_then_refines (Asks q k) next other h = (λ ys. settled_then (k ys) other, refl, λ ys. settled_then_refines (k ys) next other h)
settled_then_refines (Calls f xs k) next other h = tt
settled_then_refines (Jumps l ys) next other h = refl
settled_then_refines (Returns ys) next other h = tt
settled_then_refines Undefined next other h = tt
settled_then_refines Outside next other h = tt

pub then_on_refines : (d : Doing) (next other : List Value → Doing) → ((ys : List Value) → Refines (next ys) (other ys)) → Refines (then_on d next) (then_on d other)
then_on_refines (Ends ys) next other h = h ys
then_on_refines (Asks q k) next other h = (λ ys. then_on (k ys) other, refl, λ ys. then_on_refines (k ys) next other h)
then_on_refines (Calls f xs k) next other h = (λ ys. settled_then (k ys) other, refl, λ ys. settled_then_refines (k ys) next other h)
then_on_refines (Jumps l ys) next other h = refl
then_on_refines (Returns ys) next other h = refl
then_on_refines Undefined next other h = tt
then_on_refines Outside next other h = tt
