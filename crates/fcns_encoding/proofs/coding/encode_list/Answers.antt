use Rattle.fcns_encoding.proofs.coding.encode_list.Goals as goal
