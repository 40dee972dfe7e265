-- What a reader's answer says of the bytes that it was fed.
use Rattle.std.proofs.Common.{◌≡◌, ℕ, List, [], refl, subst, append-nil}
use Rattle.std.specs.Prelude.{Option, Some, None, Result, Ok, Err}
use Rattle.xml_nodes.specs.Machine.{Event}
use Rattle.xml_profile.specs.declared.error.XmlError.{XmlError}
use Rattle.xml_profile.specs.declared.error.XmlError.TheVariants.{Bad, Memory}
use Rattle.xml_profile.specs.declared.reader.Reader.{Reader}
use Rattle.xml_profile.specs.Reading.{IsBad, IsFed, IsFedSo, answer_of}

abbrev answered : Result (Unit {0}) XmlError → Result (Unit {0}) XmlError
answered r = r

-- a reader that answered Bad was fed bytes that are bad there
pub fed_bad : (r : Reader) (calls : List Event) (bytes : List ℕ) (e : XmlError) (at : ℕ) → answered (Err e) ≡ answer_of r.failed → e ≡ Bad at → IsFed r calls bytes → IsBad bytes at
fed_bad r calls bytes e at answer is fed = by_failed r.failed answer fed where
  by_failed : (f : Option XmlError) → answered (Err e) ≡ answer_of f → IsFedSo f r calls bytes → IsBad bytes at
  by_failed None a h = cc
  by_failed (Some (Bad k)) a h = let same : k ≡ at = cc in subst (λ z. IsBad bytes z) same (subst (λ z. IsBad z k) (append-nil bytes) (h []))
  by_failed (Some Memory) a h = cc

-- one that answered Ok failed at nothing
pub fed_well : (f : Option XmlError) → answered (Ok tt) ≡ answer_of f → f ≡ None
fed_well None a = refl
fed_well (Some e) a = cc

-- the error at which a call ends is the one that it got
pub passed_on : {T : Type 0} {r : Result T XmlError} {x y : XmlError} {at : ℕ} → r ≡ Err x → x ≡ y → r ≡ Err (Bad at) → y ≡ Bad at
passed_on e same f = cc
