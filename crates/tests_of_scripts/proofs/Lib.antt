mod HostRows
