-- Marks of parameters at places from the last one.
use Rattle.std.proofs.Common.{◌≡◌, ℕ, zero, suc, ◌-◌, ◌<◌, ◌≤◌, List, [], ◌∷◌, Option, Some, length, take, drop, reverse, slice_get, ap, sym, ◌∙◌, arith, length-drop}
use Rattle.std.proofs.lemmas.List.{length-reverse}
use Rattle.rule_arena.specs.declared.label.Label.TheVariants.{Param}
use Rattle.border_repair.specs.Cutting.{HasParameterAt}
use Rattle.border_repair.specs.declared.cutting.Mark.{Mark}
use Rattle.border_repair.proofs.StackLemmas.{split-at, at-split, length-split}

got-within : (marks : List Mark) (at : ℕ) (m : Mark) → slice_get marks at ≡ Some m → at < length marks
got-within [] at m e = absurd cc
got-within (k ∷ marks) zero m e = omega arith
got-within (k ∷ marks) (suc at) m e = let n = got-within marks at m e in omega arith

-- the mark that was looked up is at its place
pub parameter-at : (marks : List Mark) (place at : ℕ) (m : Mark) → at ≡ length marks - place → place ≤ length marks → slice_get marks at ≡ Some m → m.top ≡ Param → HasParameterAt (reverse marks) place
parameter-at marks place at m n l e p =
    let w = got-within marks at m e in
    record {
      before = reverse (drop (suc at) marks);
      mark = m;
      behind = reverse (take at marks);
      split = split-at marks at m e;
      here = omega (arith, length-reverse (drop (suc at) marks), length-drop (suc at) marks);
      parameter = p;
    }

-- and is the one of the parameter there
pub parameter-there : (marks : List Mark) (place at : ℕ) (o : Option Mark) → at ≡ length marks - place → o ≡ slice_get marks at → (h : HasParameterAt (reverse marks) place) → o ≡ Some h.mark
parameter-there marks place at o n e h =
    let m = length-split marks h.before h.behind h.mark h.split in
    let here : length h.behind ≡ at = omega (arith, h.here) in
    e ∙ ap (slice_get marks) (sym here) ∙ at-split marks h.before h.behind h.mark h.split

pub place-within : (marks : List Mark) (place : ℕ) → HasParameterAt (reverse marks) place → place ≤ length marks
place-within marks place h = let m = length-split marks h.before h.behind h.mark h.split in omega (arith, h.here)
