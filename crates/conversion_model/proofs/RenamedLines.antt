-- Renaming: the operations of a template that is written down.
use Rattle.std.proofs.Common.{◌≡◌, ℕ, zero, suc, ◌+◌, ◌==◌, Bool, true, false, List, [], ◌∷◌, refl, subst, length, map}
use Rattle.std.specs.Prelude.{get_or, pred, if◌then◌else◌}
use Rattle.plain_tree.specs.Types.{PlainType}
use Rattle.plain_tree.specs.Ops.{Op, Values}
use Rattle.conversion_model.specs.declared.templates.Source.{Source}
use Rattle.conversion_model.specs.declared.templates.Source.TheVariants.{Operand, Made}
use Rattle.conversion_model.specs.Templates.{Step, Template, copies, copy, label_at, labels_at, named, number_of, numbers, steps_written, values_made, written}
use Rattle.conversion_model.specs.Renamings.{RenAll, none_all, more_all, RenValues, none_values, more_values, RenOp, ren_op, regions_ended, OneToOne}

-- operations in order that go together
pub data RenList (R L : ℕ → ℕ → Type 0) : List Op → List Op → Type 0 where
  list_ended : RenList R L [] []
  list_more : {o p : Op} {os ps : List Op} → RenOp R L o p → RenList R L os ps → RenList R L (o ∷ os) (p ∷ ps)

-- by a test that is the same on both sides
pub either_way : {A : Type 0} (P : A → A → Type 0) (b c : Bool) (x y z w : A) → b ≡ c → P x z → P y w → P (if b then x else y) (if c then z else w)
either_way P b c x y z w same p q = subst (λ d. P (if b then x else y) (if d then z else w)) same (at b)
  where
    at : (b : Bool) → P (if b then x else y) (if b then z else w)
    at true = p
    at false = q

pub named_ren : {R : ℕ → ℕ → Type 0} {rs ss : List ℕ} (f g : ℕ → ℕ) → ((k : ℕ) → R (f k) (g k)) → RenAll R rs ss → (sources : List Source) (n : ℕ) → R (named f rs sources n) (named g ss sources n)
named_ren f g new none_all sources n = new n
named_ren f g new (more_all r rest) [] n = new n
named_ren f g new (more_all r rest) (Operand k ∷ sources) n = named_ren f g new rest sources n
named_ren {R = R} f g new (more_all {m = a} {n = b} {ms = rs} {ns = ss} r rest) (Made k ∷ sources) n =
    either_way R (k == n) (k == n) a (named f rs sources n) b (named g ss sources n) refl r (named_ren f g new rest sources n)

pub got : {R : ℕ → ℕ → Type 0} {os ps : List ℕ} → RenAll R os ps → (k a b : ℕ) → R a b → R (get_or os k a) (get_or ps k b)
got none_all k a b r = r
got (more_all s rest) zero a b r = s
got (more_all s rest) (suc k) a b r = got rest k a b r

pub number_ren : {R : ℕ → ℕ → Type 0} {os ps : List ℕ} (f g : ℕ → ℕ) → ((k : ℕ) → R (f k) (g k)) → RenAll R os ps → (s : Source) → R (number_of f os s) (number_of g ps s)
number_ren f g new os (Operand k) = got os k (f 0) (g 0) (new 0)
number_ren f g new os (Made k) = new k

pub sources_ren : {R : ℕ → ℕ → Type 0} {os ps : List ℕ} (f g : ℕ → ℕ) → ((k : ℕ) → R (f k) (g k)) → RenAll R os ps → (ss : List Source) → RenAll R (map (number_of f os) ss) (map (number_of g ps) ss)
sources_ren f g new os [] = none_all
sources_ren f g new os (s ∷ ss) = more_all (number_ren f g new os s) (sources_ren f g new os ss)

pub made_ren : {R : ℕ → ℕ → Type 0} (f g : ℕ → ℕ) → ((k : ℕ) → R (f k) (g k)) → (n : ℕ) (ts : List PlainType) → RenValues R (values_made f n ts) (values_made g n ts)
made_ren f g new n [] = none_values
made_ren f g new n (t ∷ ts) = more_values (new n) (made_ren f g new (n + 1) ts)

pub label_ren : {L : ℕ → ℕ → Type 0} {ls ms xs ys : List ℕ} → RenAll L ls ms → (k : ℕ) → RenAll L xs ys → RenAll L (label_at ls k xs) (label_at ms k ys)
label_ren none_all k more = more
label_ren {L = L} {xs = xs} {ys = ys} (more_all {m = a} {n = b} {ms = ls} {ns = ms} l rest) k more =
    either_way (RenAll L) (k == 0) (k == 0) (a ∷ xs) (label_at ls (pred k) xs) (b ∷ ys) (label_at ms (pred k) ys) refl (more_all l more) (label_ren rest (pred k) more)

pub labels_ren : {L : ℕ → ℕ → Type 0} {ls ms : List ℕ} → RenAll L ls ms → (ks : List ℕ) → RenAll L (labels_at ls ks) (labels_at ms ks)
labels_ren ls [] = none_all
labels_ren ls (k ∷ ks) = label_ren ls k (labels_ren ls ks)

pub numbers_ren : {R : ℕ → ℕ → Type 0} {vs ws : Values} → RenValues R vs ws → RenAll R (numbers vs) (numbers ws)
numbers_ren none_values = none_all
numbers_ren (more_values r rest) = more_all r (numbers_ren rest)

pub copies_ren : {R L : ℕ → ℕ → Type 0} {os ps : List ℕ} {rs ss : Values} {xs ys : List Op} (f g : ℕ → ℕ) → OneToOne R → ((k : ℕ) → R (f k) (g k)) → RenAll R os ps → RenValues R rs ss → (sources : List Source)
    → RenList R L xs ys → RenList R L (copies f os rs sources xs) (copies g ps ss sources ys)
copies_ren f g one new os none_values sources more = more
copies_ren f g one new os (more_values r rest) [] more = more
copies_ren {R = R} {L = L} {os = os} {ps = ps} {xs = xs} {ys = ys} f g one new uses (more_values {m = a} {n = b} {t = t} {vs = rs} {ws = ss} r rest) (s ∷ sources) more =
    let value : R (number_of f os s) (number_of g ps s) = number_ren f g new uses s in
    let behind : RenList R L (copies f os rs sources xs) (copies g ps ss sources ys) = copies_ren f g one new uses rest sources more in
    either_way (RenList R L) (number_of f os s == a) (number_of g ps s == b)
    (copies f os rs sources xs) (copy (a, t) (number_of f os s) ∷ copies f os rs sources xs)
    (copies g ps ss sources ys) (copy (b, t) (number_of g ps s) ∷ copies g ps ss sources ys)
    (one (number_of f os s) (number_of g ps s) a b value r) behind
    (list_more (ren_op (more_values r none_values) (more_all value none_all) regions_ended none_all) behind)

pub steps_ren : {R L : ℕ → ℕ → Type 0} {os ps ls ms : List ℕ} {xs ys : List Op} (f g : ℕ → ℕ) → ((k : ℕ) → R (f k) (g k)) → RenAll R os ps → RenAll L ls ms → (n : ℕ) (steps : List Step)
    → RenList R L xs ys → RenList R L (steps_written f os ls n steps xs) (steps_written g ps ms n steps ys)
steps_ren f g new os ls n [] more = more
steps_ren f g new os ls n (s ∷ steps) more =
    list_more (ren_op (made_ren f g new n s.makes) (sources_ren f g new os s.sources) regions_ended (labels_ren ls s.successors)) (steps_ren f g new os ls (n + length s.makes) steps more)

-- a template in the place of operations that go together, with new numbers that go together
pub written_ren : {R L : ℕ → ℕ → Type 0} {os ps ls ms : List ℕ} {rs ss : Values} {xs ys : List Op} (f g : ℕ → ℕ) → OneToOne R → ((k : ℕ) → R (f k) (g k))
    → RenValues R rs ss → RenAll R os ps → RenAll L ls ms → (t : Template) → RenList R L xs ys → RenList R L (written f rs os ls t xs) (written g ss ps ms t ys)
written_ren {R = R} {rs = rs} {ss = ss} f g one new results os ls t more =
    let names : (k : ℕ) → R (named f (numbers rs) t.results k) (named g (numbers ss) t.results k) = named_ren f g new (numbers_ren results) t.results in
    steps_ren _ _ names os ls 0 t.steps (copies_ren _ _ one names os results t.results more)
