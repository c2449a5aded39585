-- A verdict by where a reading ended, and one reason for a refusal after another. Assumes nothing.
use Rattle.wire.specs.declared.Refusal.{Refusal}
use Rattle.std.specs.Prelude.{ℕ, eqb, Ok, Err, Result}
use Rattle.wire.specs.Bytes.{pick}
use Rattle.wire.specs.Numbers.{bytes_after_end}
use Rattle.writer_rules.specs.Judged.{refused_by}

-- the verdict of a format on n bytes, by where its reading ended
unfoldable pub end_judged : ℕ → Result ℕ Refusal → Result (Unit {0}) Refusal
end_judged n (Ok m) = pick (eqb m n) (Ok tt) (refused_by bytes_after_end)
end_judged n (Err e) = refused_by e.rule

-- v if it refuses, else u
abbrev pub on_allowed : Result (Unit {0}) Refusal → Result (Unit {0}) Refusal → Result (Unit {0}) Refusal
on_allowed (Ok tt) u = u
on_allowed (Err e) u = Err e
