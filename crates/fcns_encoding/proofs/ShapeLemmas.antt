-- The nodes below a lawful document have the shape that calls ask for.
use Rattle.std.proofs.Common.{Bool, true, false}
use Rattle.plain_tree.specs.declared.kind.Kind.TheVariants as kind
use Rattle.plain_tree.specs.Lawful.{AreElementKids, AreDocumentKids, AreLawfulTrees}
use Rattle.plain_tree.specs.Tree.{node, Trees, none, more}
use Rattle.xml_nodes.specs.Machine.{AreShaped}

element_kids_shaped : (ts : Trees) (in_tag : Bool) → AreElementKids in_tag ts → AreLawfulTrees ts → AreShaped ts
element_kids_shaped none in_tag are lawful = tt
element_kids_shaped (more (node kind.Document n v ks) ts) in_tag are lawful = absurd are
element_kids_shaped (more (node kind.Element n v ks) ts) in_tag are lawful = ((lawful.0.0.1, element_kids_shaped ks true lawful.0.1 lawful.0.2), element_kids_shaped ts false are lawful.1)
element_kids_shaped (more (node kind.Attribute n v ks) ts) in_tag are lawful = (lawful.0.1, element_kids_shaped ts true are.2 lawful.1)
element_kids_shaped (more (node kind.Text n v ks) ts) in_tag are lawful = (lawful.0.1, element_kids_shaped ts false are lawful.1)
element_kids_shaped (more (node kind.Comment n v ks) ts) in_tag are lawful = (lawful.0.1, element_kids_shaped ts false are lawful.1)
element_kids_shaped (more (node kind.Instruction n v ks) ts) in_tag are lawful = (lawful.0.1, element_kids_shaped ts false are lawful.1)

-- the kids of a lawful document
pub document_kids_shaped : (ts : Trees) (rooted : Bool) → AreDocumentKids rooted ts → AreLawfulTrees ts → AreShaped ts
document_kids_shaped none rooted are lawful = tt
document_kids_shaped (more (node kind.Document n v ks) ts) rooted are lawful = absurd are
document_kids_shaped (more (node kind.Element n v ks) ts) rooted are lawful = ((lawful.0.0.1, element_kids_shaped ks true lawful.0.1 lawful.0.2), document_kids_shaped ts true are.1 lawful.1)
document_kids_shaped (more (node kind.Attribute n v ks) ts) rooted are lawful = absurd are
document_kids_shaped (more (node kind.Text n v ks) ts) rooted are lawful = absurd are
document_kids_shaped (more (node kind.Comment n v ks) ts) rooted are lawful = (lawful.0.1, document_kids_shaped ts rooted are lawful.1)
document_kids_shaped (more (node kind.Instruction n v ks) ts) rooted are lawful = (lawful.0.1, document_kids_shaped ts rooted are lawful.1)
