use Rattle.message_model.proofs.ByteLemmas.{AreBytes-from_Fits}
use Rattle.coap_message.proofs.spellings.put_bytes.Goals as goal

pub returns-clause-bytes : goal.returns-clause-bytes
returns-clause-bytes c = AreBytes-from_Fits c.args.bytes.now c.type_inv.bytes
