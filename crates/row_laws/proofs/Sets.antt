-- The sets are sound at both widths of an index.
use Rattle.std.proofs.Common.{◌≡◌, inl, inr, ℕ, Some, refl, sym, subst}
use Rattle.form_model.specs.Types.{width}
use Rattle.pattern_model.specs.ExpandRows.{expand_set}
use Rattle.pattern_model.specs.ArithRows.{arith_set}
use Rattle.pattern_model.specs.CfRows.{cf_set}
use Rattle.pattern_model.specs.Tables.{all_sets}
use Rattle.row_laws.specs.Promises.{IsWidth, SetSound}
use Rattle.row_laws.proofs.ExpandSet.{expand_sound}
use Rattle.row_laws.proofs.ArithSet.{NoRoots, arith_sound}
use Rattle.row_laws.proofs.CfSet.{cf_sound}

pub is_width : (bits : ℕ) → IsWidth bits → width bits ≡ Some bits
is_width bits (inl e) = subst (λ n. width n ≡ Some n) (sym e) refl
is_width bits (inr e) = subst (λ n. width n ≡ Some n) (sym e) refl

in_arith : NoRoots arith_set
in_arith = record {
  constant = refl;
  add = refl;
  sub = refl;
  mul = refl;
  sdiv = refl;
  udiv = refl;
  srem = refl;
  urem = refl;
  bits_and = refl;
  bits_or = refl;
  xor = refl;
  shl = refl;
  ashr = refl;
  lshr = refl;
  icmp = refl;
  select = refl;
  sext = refl;
  zext = refl;
  trunc = refl;
}

in_all : NoRoots all_sets
in_all = record {
  constant = refl;
  add = refl;
  sub = refl;
  mul = refl;
  sdiv = refl;
  udiv = refl;
  srem = refl;
  urem = refl;
  bits_and = refl;
  bits_or = refl;
  xor = refl;
  shl = refl;
  ashr = refl;
  lshr = refl;
  icmp = refl;
  select = refl;
  sext = refl;
  zext = refl;
  trunc = refl;
}

pub arith_rows : SetSound arith_set
arith_rows = record {
  alone = λ bits w. arith_sound bits (is_width bits w) arith_set in_arith;
  among_all = λ bits w. arith_sound bits (is_width bits w) all_sets in_all;
}

pub expand_rows : SetSound expand_set
expand_rows = record {
  alone = λ bits w. expand_sound bits (is_width bits w) expand_set;
  among_all = λ bits w. expand_sound bits (is_width bits w) all_sets;
}

pub cf_rows : SetSound cf_set
cf_rows = record { alone = λ bits w. cf_sound bits cf_set; among_all = λ bits w. cf_sound bits all_sets }
