mod TinyJob
