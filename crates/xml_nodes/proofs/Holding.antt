-- Where a reader holds nothing.
use Rattle.std.proofs.Common.{◌≡◌, ℕ, false, List, [], ◌∷◌, refl, ap, sym, ◌∙◌, subst}
use Rattle.xml_tokenizer.specs.declared.scan.Scan.{Scan}
use Rattle.xml_tokenizer.specs.declared.scan.Scan.TheVariants.{Idle}
use Rattle.xml_tokenizer.specs.declared.scan.Step.TheVariants.{On}
use Rattle.xml_nodes.proofs.LineEnds.{gives_byte}
use Rattle.xml_nodes.proofs.Place.{begun}
use Rattle.xml_tokenizer.specs.LineEnds.{line_ends_after, ends_in_return, begins_dropped}
use Rattle.xml_nodes.specs.Stands.{StandsFrom}
use Rattle.xml_nodes.specs.Machine.{State, Event}
use Rattle.xml_tokenizer.specs.Scanning.{scanned}

module _ (from : State) (front raw held : List ℕ) (scan : Scan) (now : State) (log : List Event) (s : StandsFrom from front raw held scan now log) where
  -- where the scan is idle nothing is held
  pub idle_holds_nothing : scan ≡ Idle → (held ≡ []) × (raw ≡ [])
  idle_holds_nothing e = by_raw raw refl where
    by_raw : (x : List ℕ) → raw ≡ x → (held ≡ []) × (raw ≡ [])
    by_raw [] f = (s.read.rest ∙ ap (λ z. line_ends_after (ends_in_return false front) z) f, f)
    by_raw (c ∷ x) f =
        let g = gives_byte (ends_in_return false front) c x (subst (λ z. begins_dropped (ends_in_return false front) z ≡ false) f s.read.kept) in
        let is : held ≡ g.first ∷ g.others = s.read.rest ∙ ap (λ z. line_ends_after (ends_in_return false front) z) f ∙ g.are in
        absurd (begun g.first g.others scan (sym (ap (λ z. scanned (On Idle) z) is) ∙ s.read.waits) e)
