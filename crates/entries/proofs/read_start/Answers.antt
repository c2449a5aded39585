use Rattle.std.proofs.Common.{◌≡◌, ℕ, ◌+◌, ◌≤◌, List, ◌++◌, length, take, sym, ap, ◌∙◌, subst, arith, length-append, length-take-le}
use Rattle.std.proofs.Math.Seq.{take-append-add}
use Rattle.std.proofs.lemmas.List.{take-append-le}
use Rattle.std.proofs.KnownBytes.{Consumes-trans}
use Rattle.std.specs.Io.KnownBytes.{Consumes}
use Rattle.entries.proofs.read_start.Goals as goal

-- n bytes of the part follow the front, in the buffer that has the part back
module _ (buf part rest : List ℕ) (at n : ℕ) (inside : at ≤ length buf) (fits : n ≤ length part) where
  front_wide : length (take at buf) ≡ at
  front_wide = length-take-le at buf inside

  within : at + n ≤ length (take at buf ++ (part ++ rest))
  within = omega (arith, front_wide, length-append (take at buf) (part ++ rest), length-append part rest)

  grown : take (at + n) (take at buf ++ (part ++ rest)) ≡ take at buf ++ take n part
  grown =
      ap (λ (i : ℕ). take (i + n) (take at buf ++ (part ++ rest))) (sym front_wide) ∙ take-append-add (take at buf) (part ++ rest) n
      ∙ ap (λ (z : List ℕ). take at buf ++ z) (take-append-le n part rest fits)

pub loop-at-preserved : goal.loop-at-preserved
loop-at-preserved g c =
    let before = c.loop-at.invariant in
    let fits = c.in_ok-got.ensures.bound.0 in record {
      within = within c.loop-at.buf c.read.new.buf _ c.loop-at.at c.in_ok-got.got before.within fits;
      read = subst (Consumes (g.F.Read.remaining c.args.file) (g.F.Read.remaining c.read.new.self))
          (sym (grown c.loop-at.buf c.read.new.buf _ c.loop-at.at c.in_ok-got.got before.within fits))
          (Consumes-trans _ (g.F.Read.remaining c.loop-at.file) _ _ _ before.read c.in_ok-got.ensures.bytes.0);
    }
