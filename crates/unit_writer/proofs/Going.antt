-- How what is written is put together: steps one after another, loops, and numbers that were asked for.
use Rattle.std.proofs.Common.{◌≡◌, ap, refl, ◌∙◌}
use Rattle.new_numbers.specs.Tables.{Extends, Numbering}
use Rattle.new_numbers.proofs.PlaceLaws.{extends_itself, extends_on}
use Rattle.unit_writer.specs.Names.{Asked}
use Rattle.unit_writer.specs.Says.{Reading}
use Rattle.unit_writer.specs.Writes.{Comes}

-- Asking

pub asked_same : {P : Numbering → Type 0} → (t : Numbering) → ((u : Numbering) → P u) → Asked t t P
asked_same t says = record { extends = extends_itself t; says = λ u e. says u }

pub asked_on : {P Q R : Numbering → Type 0} → (a b c : Numbering) → Asked a b P → Asked b c Q → ((u : Numbering) → P u → Q u → R u) → Asked a c R
asked_on a b c p q both = record {
  extends = extends_on a b c p.extends q.extends;
  says = λ u e. both u (p.says u (extends_on b c u q.extends e)) (q.says u e);
}

pub asked_as : {P R : Numbering → Type 0} → (a b : Numbering) → Asked a b P → ((u : Numbering) → P u → R u) → Asked a b R
asked_as a b p as_r = record { extends = p.extends; says = λ u e. as_r u (p.says u e) }

-- Writing

module _ {S X R : Type 0} (table : S → Numbering) (behind : S → X → R) where
  -- so far: what is left of a whole, and holds of it
  pub record Ahead (H : Reading → Type 0) (f : Reading → X → X) (old now : S) (K : Reading → Type 0) (g : Reading → X → X) : Type 0 where
    pub extends : Extends (table old) (table now)
    pub says : (m : Reading) → Extends (table now) m.table → H m → K m
    pub written : (m : Reading) → Extends (table now) m.table → H m → (more : X) → behind old (f m more) ≡ behind now (g m more)

  pub ahead_start : (H : Reading → Type 0) (f : Reading → X → X) (s : S) → Ahead H f s s H f
  ahead_start H f s = record { extends = extends_itself (table s); says = λ m e h. h; written = λ m e h more. refl }

  pub ahead_on : (H K K' L : Reading → Type 0) (f g g' p : Reading → X → X) (old mid new : S) → Ahead H f old mid K g → Comes table behind L p mid new
      → ((m : Reading) → K m → L m) → ((m : Reading) → K m → K' m) → ((m : Reading) → K m → (more : X) → g m more ≡ p m (g' m more)) → Ahead H f old new K' g'
  ahead_on H K K' L f g g' p old mid new a c needs left same = record {
    extends = extends_on (table old) (table mid) (table new) a.extends c.extends;
    says = λ m e h. left m (a.says m (extends_on (table mid) (table new) m.table c.extends e) h);
    written = λ m e h more.
        let before : Extends (table mid) m.table = extends_on (table mid) (table new) m.table c.extends e in
        let k : K m = a.says m before h in
        a.written m before h more ∙ ap (behind mid) (same m k more) ∙ c.written m e (needs m k) (g' m more);
  }

  -- what is left, said in another way
  pub ahead_as : (H K K' : Reading → Type 0) (f g g' : Reading → X → X) (old now : S) → Ahead H f old now K g
      → ((m : Reading) → K m → K' m) → ((m : Reading) → K m → (more : X) → g m more ≡ g' m more) → Ahead H f old now K' g'
  ahead_as H K K' f g g' old now a left same = record {
    extends = a.extends;
    says = λ m e h. left m (a.says m e h);
    written = λ m e h more. a.written m e h more ∙ ap (behind now) (same m (a.says m e h) more);
  }

  -- nothing is left
  pub ahead_ended : (H K : Reading → Type 0) (f g : Reading → X → X) (old now : S) → Ahead H f old now K g
      → ((m : Reading) → K m → (more : X) → g m more ≡ more) → Comes table behind H f old now
  ahead_ended H K f g old now a none = record {
    extends = a.extends;
    written = λ m e h more. a.written m e h more ∙ ap (behind now) (none m (a.says m e h) more);
  }

  -- a last step
  pub ahead_last : (H K L : Reading → Type 0) (f g p : Reading → X → X) (old mid new : S) → Ahead H f old mid K g → Comes table behind L p mid new
      → ((m : Reading) → K m → L m) → ((m : Reading) → K m → (more : X) → g m more ≡ p m more) → Comes table behind H f old new
  ahead_last H K L f g p old mid new a c needs same = record {
    extends = extends_on (table old) (table mid) (table new) a.extends c.extends;
    written = λ m e h more.
        let before : Extends (table mid) m.table = extends_on (table mid) (table new) m.table c.extends e in
        let k : K m = a.says m before h in
        a.written m before h more ∙ ap (behind mid) (same m k more) ∙ c.written m e (needs m k) more;
  }

  -- a part said in another way
  pub comes_as : (H L : Reading → Type 0) (f p : Reading → X → X) (old new : S) → Comes table behind L p old new
      → ((m : Reading) → H m → L m) → ((m : Reading) → H m → (more : X) → f m more ≡ p m more) → Comes table behind H f old new
  comes_as H L f p old new c needs same = record {
    extends = c.extends;
    written = λ m e h more. ap (behind old) (same m h more) ∙ c.written m e (needs m h) more;
  }

  -- two parts, the first in front
  pub comes_on : (H L : Reading → Type 0) (f p : Reading → X → X) (old mid new : S) → Comes table behind H f old mid → Comes table behind L p mid new
      → ((m : Reading) → H m → L m) → Comes table behind H (λ m more. f m (p m more)) old new
  comes_on H L f p old mid new a c needs = record {
    extends = extends_on (table old) (table mid) (table new) a.extends c.extends;
    written = λ m e h more.
        let before : Extends (table mid) m.table = extends_on (table mid) (table new) m.table c.extends e in
        a.written m before h (p m more) ∙ c.written m e (needs m h) more;
  }
