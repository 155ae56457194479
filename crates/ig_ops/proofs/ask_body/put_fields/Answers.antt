use Rattle.ig_ops.proofs.ask_body.put_fields.Goals as goal

pub returns-in-Run : goal.returns-in-Run
returns-in-Run g c = rw c.in-Run.is c.put_call.ensures

pub returns-in-Scan : goal.returns-in-Scan
returns-in-Scan g c = rw c.in-Scan.is c.put_scan.ensures

pub returns-in-NextPage : goal.returns-in-NextPage
returns-in-NextPage g c = rw c.in-NextPage.is c.put.ensures

pub returns-in-Close : goal.returns-in-Close
returns-in-Close g c = rw c.in-Close.is c.put-in-Close.ensures
