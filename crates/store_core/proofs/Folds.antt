-- A file that was fed to a reader whose calls were folded.
use Rattle.std.proofs.Common.{◌≡◌, ◌∙◌, ℕ, List, [], Option, Some, None, Result, Ok, Err, refl, sym}
use Rattle.tree_outside.specs.Files.{Told}
use Rattle.plain_tree.specs.Tree.{Tree}
use Rattle.plain_tree.specs.Lawful.{IsDocument}
use Rattle.xml_nodes.specs.Machine.{Event, events}
use Rattle.xml_nodes.specs.Spelling.{Spells}
use Rattle.xml_nodes.specs.Taking.{Built}
use Rattle.xml_nodes.proofs.Bytes.{spells-document}
use Rattle.xml_profile.specs.Reading.{IsFed}
use Rattle.xml_profile.specs.declared.error.XmlError.{XmlError}
use Rattle.xml_profile.specs.declared.reader.Reader.{Reader}
use Rattle.store_core.specs.Feeding.{FeedsFile, ReadsDocument}

-- a reader that is finished without an error has not failed
pub unfailed : (failed : Option XmlError) (result : Result (Unit {0}) XmlError) (done : Unit {0}) → ((e : XmlError) → failed ≡ Some e → result ≡ Err e) → result ≡ Ok done → failed ≡ None
unfailed None result done again ok = refl
unfailed (Some e) result done again ok = let both : Err e ≡ Ok done = sym (again e refl) ∙ ok in cc

-- the document whose calls were made, which the file spells
pub record IsTold (told : Option Told) (log : List Event) : Type 0 where
  pub tree : Tree
  pub reads : ReadsDocument told tree
  pub document : IsDocument tree
  pub logged : log ≡ events tree []

pub told_document : (told : Option Told) (reader : Reader) (built : Built) → FeedsFile told reader built → reader.failed ≡ None
    → ((calls : List Event) (fed : List ℕ) → IsFed reader calls fed → (t : Tree) × Spells fed t × (calls ≡ events t [])) → IsTold told built.log
told_document told reader built feeds none document =
    let t = document feeds.fed.calls feeds.bytes feeds.fed.fed in
    record {
      tree = t.0;
      reads = record { bytes = feeds.bytes; left = feeds.left; spelled = t.1 };
      document = (spells-document feeds.bytes t.0 t.1).0;
      logged = feeds.fed.logged none ∙ t.2;
    }
