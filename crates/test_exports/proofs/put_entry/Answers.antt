-- `test_exports::put_entry` meets its contract. Assumes nothing.
use Rattle.test_exports.specs.code.Values.{entry_values}
use Rattle.test_exports.proofs.Putting.{put_one, by-case}
use Rattle.test_exports.proofs.put_entry.Goals as goal

pub returns-in-Output : goal.returns-in-Output
returns-in-Output c = search (by-case entry_values, put_one)

pub returns-in-Input : goal.returns-in-Input
returns-in-Input c = search (by-case entry_values, put_one)

pub returns-in-Operation : goal.returns-in-Operation
returns-in-Operation c = search (by-case entry_values, put_one)

pub returns-in-ImportedInput : goal.returns-in-ImportedInput
returns-in-ImportedInput c = search (by-case entry_values, put_one)

pub returns-in-ExportedOutput : goal.returns-in-ExportedOutput
returns-in-ExportedOutput c = search (by-case entry_values, put_one)

pub returns-in-InitialStateOutput : goal.returns-in-InitialStateOutput
returns-in-InitialStateOutput c = search (by-case entry_values, put_one)

pub returns-in-Credential : goal.returns-in-Credential
returns-in-Credential c = search (by-case entry_values, put_one)
