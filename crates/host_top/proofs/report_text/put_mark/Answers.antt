use Rattle.host_top.proofs.report_text.put_mark.Goals as goal

pub returns-in-ArpRequest : goal.returns-in-ArpRequest
returns-in-ArpRequest g c = rw c.in-ArpRequest.is c.put-in-ArpRequest.ensures
