-- A scan over names and white space.
use Rattle.std.proofs.Common.{◌≡◌, ℕ, Bool, true, List, refl, arith}
use Rattle.std.specs.Prelude.{◌==◌, ◌||◌, not}
use Rattle.std.specs.List.{list_all}
use Rattle.std.proofs.lemmas.Bool.Decides.{nat_tests}
use Rattle.plain_tree.specs.XmlNames.{is_space, are_spaces, is_white, is_name}
use Rattle.xml_tokens.specs.NameBytes.{is_name_byte}
use Rattle.xml_tokenizer.specs.Scanning.{scan_step, scanned}
use Rattle.xml_tokenizer.specs.declared.scan.Scan.TheVariants as at
use Rattle.xml_tokenizer.specs.declared.scan.Step.TheVariants.{On}
use Rattle.xml_tokens.proofs.Texts.{name_bytes}
use Rattle.xml_tokens.proofs.Parts.{name_is_not, no_name_byte, white_spaces}
use Rattle.xml_tokens.proofs.Pieces.{all_of}
use Rattle.xml_tokenizer.proofs.ScanLaws.{stays}

-- a byte of a name, or of white space, that neither ends a tag nor opens quotes
abbrev pub is_plain : ℕ → Bool
is_plain c = not (c == 33 || c == 34 || c == 39 || c == 60 || c == 62 || c == 63)

name_plain : (c : ℕ) → is_name_byte c ≡ true → is_plain c ≡ true
name_plain c e =
    rw (
      name_is_not c 33 e no_name_byte.0,
      name_is_not c 34 e no_name_byte.1,
      name_is_not c 39 e no_name_byte.2,
      name_is_not c 60 e no_name_byte.4,
      name_is_not c 62 e no_name_byte.6,
      name_is_not c 63 e no_name_byte.7,
    ) refl

pub name_is_plain : (x : List ℕ) → is_name x ≡ true → list_all is_plain x ≡ true
name_is_plain x n = all_of is_name_byte is_plain name_plain x (name_bytes x n)

space_plain : (c : ℕ) → is_space c ≡ true → is_plain c ≡ true
space_plain c e = grind (arith, nat_tests)

pub spaces_plain : (x : List ℕ) → are_spaces x ≡ true → list_all is_plain x ≡ true
spaces_plain x e = all_of is_space is_plain space_plain x e

pub white_plain : (x : List ℕ) → is_white x ≡ true → list_all is_plain x ≡ true
white_plain x e = spaces_plain x (white_spaces x e)

tag_stays : (c : ℕ) → is_plain c ≡ true → scan_step at.Tag c ≡ On at.Tag
tag_stays c e = grind (arith, nat_tests)

pub open_goes : (c : ℕ) → is_plain c ≡ true → scan_step at.Open c ≡ On at.Tag
open_goes c e = grind (arith, nat_tests)

-- a scan over white space or a name, from where it stays
pub over_plain : (x : List ℕ) → list_all is_plain x ≡ true → scanned (On at.Tag) x ≡ On at.Tag
over_plain x e = stays at.Tag is_plain tag_stays x e
