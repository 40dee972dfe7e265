-- Where a scan over bytes ends.
use Rattle.std.specs.Prelude.{◌≡◌, ℕ, List, ◌∷◌}
use Rattle.xml_tokens.specs.Cutting.{Begins}
use Rattle.xml_tokenizer.specs.Scanning.{scanned, scan_step}
use Rattle.xml_tokenizer.specs.declared.scan.Scan.{Scan}
use Rattle.xml_tokenizer.specs.declared.scan.Step.TheVariants.{On, Whole, Dead}
use Rattle.xml_tokenizer.specs.declared.scan.Ended.{Ended}
use Rattle.xml_tokenizer.specs.declared.scan.Ended.TheVariants as ended

-- from s a scan over the front of the bytes comes to t, and after follows
abbrev pub Came : Scan → List ℕ → Scan → List ℕ → Type 0
Came s bytes t after = Begins (λ x. scanned (On s) x ≡ On t) bytes after

-- a scan dies at the first byte of those left
pub record Dies (s : Scan) (bytes left : List ℕ) : Type 0 where
  pub at : Scan
  pub c : ℕ
  pub cs : List ℕ
  pub came : Came s bytes at left
  pub first : left ≡ c ∷ cs
  pub dead : scan_step at c ≡ Dead

-- a scan from s over the bytes ends so
abbrev pub EndsSo : Scan → List ℕ → Ended → Type 0
EndsSo s bytes (ended.On t) = scanned (On s) bytes ≡ On t
EndsSo s bytes (ended.Whole after) = Begins (λ x. scanned (On s) x ≡ Whole) bytes after.now
EndsSo s bytes (ended.Dead left) = Dies s bytes left.now
