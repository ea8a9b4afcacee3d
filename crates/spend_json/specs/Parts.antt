-- The parts of a frame that were read of a file.
use Rattle.tx_context.specs.Transaction.{Transaction, Locking, transaction}
use Rattle.spend_json.specs.declared.transaction.TransactionParts.{TransactionParts}

abbrev pub parts_of : TransactionParts → Transaction Locking
parts_of p = transaction p.version p.locktime p.inputs.items p.outputs.items p.active
