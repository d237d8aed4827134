-- What the types of the code stand for.
use Rattle.std.specs.Prelude.{ℕ, List, [], Option}
use Rattle.std.specs.Option.{option_map, unwrap_or}
use Rattle.run_code.specs.declared.width.Width.{Width}
use Rattle.run_code.specs.Views.{bits_of}
use Rattle.run_report.specs.declared.reports.Run.{Run}
use Rattle.run_report.specs.Reports.{Request}

abbrev pub request_of : Run → Request
request_of r = record { name = r.name.now; args = r.args.now; fuel = r.fuel; bits = r.bits }

-- widths, none where they aren't known
abbrev pub known_bits : Option (List Width) → List ℕ
known_bits ws = unwrap_or (option_map bits_of ws) []
